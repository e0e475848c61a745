-- Groups of pairs by their names, with one pair more.
use Rattle.std.proofs.Common.{◌≡◌, ◌∙◌, ℕ, zero, suc, ◌+◌, ◌<◌, ◌≤◌, ◌==◌, ◌&&◌, Bool, true, false, cond, nat_eq, not, List, [], ◌∷◌, ◌++◌, filter, map, take, set, length, get_or, slice_get, All, Option, None, Some, refl, sym, ap, subst, arith}
use Rattle.std.specs.List.{Any, count_by, list_any, position_or_len}
use Rattle.std.specs.Option.{option_eq}
use Rattle.indexmap.specs.IndexSet.{insert_key}
use Rattle.std.proofs.lemmas.Bool.{and_parts, eqb-true}
use Rattle.std.proofs.lemmas.List.{take_all, take_more}
use Rattle.std.proofs.lemmas.List.Sums.{length-filter}
use Rattle.std.proofs.lemmas.List.Elements.{All-nil, All-cons, All-head, All-tail, All-map}
use Rattle.explain_meetings.proofs.PutLaws.{from_cases, in_front, in_rest, put_all, put_apart, put_each, put_keys, put_known, put_new}
use Rattle.explain_meetings.specs.Groups.{capped, AreGroups, DoAscend, IsGroup, IsIn, have_names, kind_number, same_channel, same_name}
use Rattle.explain_meetings.specs.GroupSteps.{AreNamed, DoRowsAscend, IsNamed, counted, have_same, key_of, name_key, named_at, names_in, names_of, put_named}
use Rattle.explain_meetings.specs.declared.groups.Group.{Group}
use Rattle.explain_meetings.specs.declared.groups.Key.{Key}
use Rattle.explain_meetings.specs.declared.groups.NameKey.{NameKey}
use Rattle.explain_meetings.specs.declared.groups.Named.{Named}
use Rattle.sync_types.specs.declared.verdicts.PlaceName.{PlaceName}
use Rattle.sync_types.specs.declared.verdicts.StretchKind.{StretchKind}
use Rattle.sync_types.specs.declared.verdicts.StretchKind.TheVariants.{Idle, Run, Hold, End, Free}
use Rattle.explain_places.specs.declared.place.Meeting.{Meeting}

-- ---- names

kind_is : (a b : StretchKind) → kind_number a ≡ kind_number b → a ≡ b
kind_is Idle Idle e = refl
kind_is Idle Run e = absurd (omega arith)
kind_is Idle Hold e = absurd (omega arith)
kind_is Idle End e = absurd (omega arith)
kind_is Idle Free e = absurd (omega arith)
kind_is Run Idle e = absurd (omega arith)
kind_is Run Run e = refl
kind_is Run Hold e = absurd (omega arith)
kind_is Run End e = absurd (omega arith)
kind_is Run Free e = absurd (omega arith)
kind_is Hold Idle e = absurd (omega arith)
kind_is Hold Run e = absurd (omega arith)
kind_is Hold Hold e = refl
kind_is Hold End e = absurd (omega arith)
kind_is Hold Free e = absurd (omega arith)
kind_is End Idle e = absurd (omega arith)
kind_is End Run e = absurd (omega arith)
kind_is End Hold e = absurd (omega arith)
kind_is End End e = refl
kind_is End Free e = absurd (omega arith)
kind_is Free Idle e = absurd (omega arith)
kind_is Free Run e = absurd (omega arith)
kind_is Free Hold e = absurd (omega arith)
kind_is Free End e = absurd (omega arith)
kind_is Free Free e = refl

is_itself : (n : ℕ) → (n == n) ≡ true
is_itself n = grind arith

both : (a b : Bool) → a ≡ true → b ≡ true → (a && b) ≡ true
both true b p q = q
both false b p q = absurd cc

channel_is : (a b : Option ℕ) → same_channel a b ≡ true → a ≡ b
channel_is None None e = refl
channel_is None (Some y) e = absurd cc
channel_is (Some x) None e = absurd cc
channel_is (Some x) (Some y) e = ap (λ (n : ℕ). let o : Option ℕ = Some n in o) (eqb-true x y e)

channel_itself : (a : Option ℕ) → same_channel a a ≡ true
channel_itself None = refl
channel_itself (Some x) = is_itself x

pub name_is : (a b : PlaceName) → same_name a b ≡ true → a ≡ b
name_is a b on =
    let line = and_parts (a.line == b.line) _ on in
    let zone = and_parts (a.zone == b.zone) _ line.1 in
    let rest = and_parts (same_channel a.channel b.channel) (kind_number a.kind == kind_number b.kind) zone.1 in
    ap (λ (n : ℕ). let p : PlaceName = record { zone = a.zone; channel = a.channel; kind = a.kind; line = n } in p) (eqb-true a.line b.line line.0)
    ∙ ap (λ (n : ℕ). let p : PlaceName = record { zone = n; channel = a.channel; kind = a.kind; line = b.line } in p) (eqb-true a.zone b.zone zone.0)
    ∙ ap (λ (o : Option ℕ). let p : PlaceName = record { zone = b.zone; channel = o; kind = a.kind; line = b.line } in p) (channel_is a.channel b.channel rest.0)
    ∙ ap (λ (k : StretchKind). let p : PlaceName = record { zone = b.zone; channel = b.channel; kind = k; line = b.line } in p) (kind_is a.kind b.kind (eqb-true (kind_number a.kind) (kind_number b.kind) rest.1))

name_itself : (a : PlaceName) → same_name a a ≡ true
name_itself a =
    both (a.line == a.line) _ (is_itself a.line) (both (a.zone == a.zone) _ (is_itself a.zone)
    (both (same_channel a.channel a.channel) (kind_number a.kind == kind_number a.kind) (channel_itself a.channel) (is_itself (kind_number a.kind))))

pub name_on : (a b : PlaceName) → a ≡ b → same_name a b ≡ true
name_on a b e = subst (λ (x : PlaceName). same_name a x ≡ true) e (name_itself a)

same_is : (a b : Named) → have_same a b ≡ true → names_in a ≡ names_in b
same_is a b on =
    let parts = and_parts (same_name a.left b.left) (same_name a.right b.right) on in
    ap (λ (n : PlaceName). let p : PlaceName × PlaceName = (n, a.right) in p) (name_is a.left b.left parts.0)
    ∙ ap (λ (n : PlaceName). let p : PlaceName × PlaceName = (b.left, n) in p) (name_is a.right b.right parts.1)

same_on : (a b : Named) → names_in a ≡ names_in b → have_same a b ≡ true
same_on a b e =
    both (same_name a.left b.left) (same_name a.right b.right) (name_on a.left b.left (ap (λ (p : PlaceName × PlaceName). p.0) e)) (name_on a.right b.right (ap (λ (p : PlaceName × PlaceName). p.1) e))

merged : (a b : Named) → names_in a ≡ names_in b → names_in (counted a b) ≡ names_in a
merged a b e = refl

-- ---- keys

abbrev is_name_key : NameKey → NameKey → Bool
is_name_key one other = one.line == other.line && (one.zone == other.zone && (option_eq nat_eq one.channel other.channel && one.kind == other.kind))

-- how the keys of groups are compared
abbrev pub is_key : Key → Key → Bool
is_key one other = is_name_key one.left other.left && is_name_key one.right other.right

turned : (a b : ℕ) → (a == b) ≡ (b == a)
turned a b = grind arith

channels_alike : (a b : Option ℕ) → option_eq nat_eq a b ≡ same_channel b a
channels_alike None None = refl
channels_alike None (Some y) = refl
channels_alike (Some x) None = refl
channels_alike (Some x) (Some y) = turned x y

both_alike : (a b c d : Bool) → a ≡ b → c ≡ d → (a && c) ≡ (b && d)
both_alike a b c d p q = ap (λ (x : Bool). x && c) p ∙ ap (λ (x : Bool). b && x) q

names_alike : (a b : PlaceName) → is_name_key (name_key a) (name_key b) ≡ same_name b a
names_alike a b =
    both_alike _ _ _ _ (turned a.line b.line)
    (both_alike _ _ _ _ (turned a.zone b.zone) (both_alike _ _ _ _ (channels_alike a.channel b.channel) (turned (kind_number a.kind) (kind_number b.kind))))

keys_alike : (row new : Named) → is_key (key_of new) (key_of row) ≡ have_same row new
keys_alike row new = both_alike _ _ _ _ (names_alike new.left row.left) (names_alike new.right row.right)

key_stays : (row new : Named) → key_of (counted row new) ≡ key_of row
key_stays row new = refl

is_found : (b : Bool) (c : Bool) → c ≡ not b → c ≡ false → b ≡ true
is_found true c is e = refl
is_found false c is e = absurd cc

is_none : (b : Bool) (c : Bool) → c ≡ not b → c ≡ true → b ≡ false
is_none true c is e = absurd cc
is_none false c is e = refl

-- what a look-up of the key of a group tells
module _ (rows : List Named) (keys : List Key) (new : Named) (key : Key) (are : keys ≡ map key_of rows) (key_is : key ≡ key_of new) where
  told : (is_new : Bool) → is_new ≡ not (list_any (is_key key) keys) → is_new ≡ not (list_any (is_key (key_of new)) (map key_of rows))
  told is_new is = is ∙ ap (λ (ks : List Key). not (list_any (is_key key) ks)) are ∙ ap (λ (k : Key). not (list_any (is_key k) (map key_of rows))) key_is

  pub named_new : (is_new : Bool) → is_new ≡ not (list_any (is_key key) keys) → is_new ≡ true → rows ++ new ∷ [] ≡ put_named rows new
  named_new is_new is on = put_new key_of is_key have_same keys_alike counted key_stays rows new (is_none _ is_new (told is_new is) on)

  pub named_known : (place : ℕ) (d made : Named) (is_new : Bool) → is_new ≡ not (list_any (is_key key) keys) → is_new ≡ false → place ≡ position_or_len (is_key key) keys
      → made ≡ counted (get_or rows place d) new → set rows place made ≡ put_named rows new
  named_known place d made is_new is off at made_is =
      ap (λ (m : Named). set rows place m) made_is
      ∙ subst (λ (n : ℕ). set rows n (counted (get_or rows n d) new) ≡ put_named rows new)
      (sym (at ∙ ap (λ (ks : List Key). position_or_len (is_key key) ks) are ∙ ap (λ (k : Key). position_or_len (is_key k) (map key_of rows)) key_is))
      (put_known key_of is_key have_same keys_alike counted key_stays rows new d (is_found _ is_new (told is_new is) off))

  pub named_keys : (more : List Key) → more ≡ insert_key is_key keys key → more ≡ map key_of (put_named rows new)
  named_keys more is =
      is ∙ ap (λ (ks : List Key). insert_key is_key ks key) are ∙ ap (λ (k : Key). insert_key is_key (map key_of rows) k) key_is
      ∙ put_keys key_of is_key have_same keys_alike counted key_stays rows new

-- ---- lists

get_first : {X : Type 0} (xs ys : List X) (k : ℕ) (x : X) → slice_get xs k ≡ Some x → slice_get (xs ++ ys) k ≡ Some x
get_first [] ys k x e = absurd cc
get_first (y ∷ xs) ys zero x e = e
get_first (y ∷ xs) ys (suc k) x e = get_first xs ys k x e

get_last : {X : Type 0} (xs : List X) (x : X) → slice_get (xs ++ x ∷ []) (length xs) ≡ Some x
get_last [] x = refl
get_last (y ∷ xs) x = get_last xs x

get_long : {X : Type 0} (xs : List X) (k : ℕ) (x : X) → slice_get xs k ≡ Some x → k < length xs
get_long [] k x e = absurd cc
get_long (y ∷ xs) zero x e = omega arith
get_long (y ∷ xs) (suc k) x e = let rest = get_long xs k x e in omega (arith, rest)

take_first : {X : Type 0} (k : ℕ) (xs ys : List X) → k ≤ length xs → take k (xs ++ ys) ≡ take k xs
take_first zero xs ys h = refl
take_first (suc k) [] ys h = absurd (omega arith)
take_first (suc k) (x ∷ xs) ys h = ap (λ (zs : List _). x ∷ zs) (take_first k xs ys (omega (arith, h)))

count_step : (t : Meeting → Bool) (x : Meeting) (xs : List Meeting) → count_by t (x ∷ xs) ≡ cond (t x) 1 0 + count_by t xs
count_step t x xs = sym (length-filter t (x ∷ xs)) ∙ by_test (t x) ∙ ap (λ (n : ℕ). cond (t x) 1 0 + n) (length-filter t xs)
  where
    by_test : (b : Bool) → length (cond b (x ∷ filter t xs) (filter t xs)) ≡ cond b 1 0 + length (filter t xs)
    by_test true = omega arith
    by_test false = omega arith

count_push : (t : Meeting → Bool) (xs : List Meeting) (x : Meeting) → count_by t (xs ++ x ∷ []) ≡ count_by t xs + cond (t x) 1 0
count_push t [] x = let one = count_step t x [] in omega (arith, one)
count_push t (y ∷ xs) x =
    let rest = count_push t xs x in
    let whole = count_step t y (xs ++ x ∷ []) in
    let first = count_step t y xs in
    omega (arith, rest, whole, first)

count_none : (t : Meeting → Bool) (xs : List Meeting) → All (λ x. t x ≡ false) xs → count_by t xs ≡ 0
count_none t [] all = refl
count_none t (x ∷ xs) all =
    let rest = count_none t xs (All-tail (λ y. t y ≡ false) x xs all) in
    let step = count_step t x xs ∙ ap (λ (b : Bool). cond b 1 0 + count_by t xs) (All-head (λ y. t y ≡ false) x xs all) in
    omega (arith, rest, step)

not_so : (b : Bool) → (b ≡ true → ⊥) → b ≡ false
not_so true h = absurd (h refl)
not_so false h = refl

-- ---- one pair more

names_apart : (left right : PlaceName) (m : Meeting) → (names_of m ≡ (left, right) → ⊥) → have_names left right m ≡ false
names_apart left right m apart =
    not_so (have_names left right m)
    (λ on. let parts = and_parts (same_name m.left.name left) (same_name m.right.name right) on in
    apart (ap (λ (n : PlaceName). let p : PlaceName × PlaceName = (n, m.right.name) in p) (name_is m.left.name left parts.0)
    ∙ ap (λ (n : PlaceName). let p : PlaceName × PlaceName = (left, n) in p) (name_is m.right.name right parts.1)))

names_same : (left right : PlaceName) (m : Meeting) → names_of m ≡ (left, right) → have_names left right m ≡ true
names_same left right m e =
    both (same_name m.left.name left) (same_name m.right.name right) (name_on m.left.name left (ap (λ (p : PlaceName × PlaceName). p.0) e)) (name_on m.right.name right (ap (λ (p : PlaceName × PlaceName). p.1) e))

module _ (seen : List Meeting) (m : Meeting) (new : Named) (is : new ≡ named_at (length seen) m) where
  new_names : names_in new ≡ names_of m
  unfolding named_at
  new_names = ap names_in is

  new_first : new.group.first ≡ length seen
  unfolding named_at
  new_first = ap (λ (r : Named). r.group.first) is

  new_count : new.group.count ≡ 1
  unfolding named_at
  new_count = ap (λ (r : Named). r.group.count) is

  kept_count : (row : Named) (b : Bool) → have_names row.left row.right m ≡ b → IsNamed seen row → count_by (have_names row.left row.right) (seen ++ m ∷ []) ≡ count_by (have_names row.left row.right) seen + cond b 1 0
  kept_count row b e named = count_push (have_names row.left row.right) seen m ∙ ap (λ (t : Bool). count_by (have_names row.left row.right) seen + cond t 1 0) e

  others : (row : Named) → (names_in row ≡ names_in new → ⊥) → IsNamed seen row → IsNamed (seen ++ m ∷ []) row
  others row apart named =
      let within = get_long seen row.group.first named.one named.there in
      let counts : count_by (have_names row.left row.right) (seen ++ m ∷ []) ≡ count_by (have_names row.left row.right) seen =
      (let all = kept_count row false (names_apart row.left row.right m (λ e. apart (sym e ∙ sym new_names))) named in omega (arith, all)) in
      record {
        one = named.one;
        there = get_first seen (m ∷ []) row.group.first named.one named.there;
        left = named.left;
        right = named.right;
        first = subst (λ (ms : List Meeting). All (λ other. have_names row.left row.right other ≡ false) ms) (sym (take_first row.group.first seen (m ∷ []) (omega (arith, within)))) named.first;
        count = named.count ∙ ap capped (sym counts);
      }

  merges : (row : Named) → names_in row ≡ names_in new → IsNamed seen row → IsNamed (seen ++ m ∷ []) (counted row new)
  merges row same named =
      let within = get_long seen row.group.first named.one named.there in
      let all = kept_count row true (names_same row.left row.right m (sym new_names ∙ sym same)) named in
      let so_far = named.count in
      record {
        one = named.one;
        there = get_first seen (m ∷ []) row.group.first named.one named.there;
        left = named.left;
        right = named.right;
        first = subst (λ (ms : List Meeting). All (λ other. have_names row.left row.right other ≡ false) ms) (sym (take_first row.group.first seen (m ∷ []) (omega (arith, within)))) named.first;
        count = one_more row.group.count new.group.count (count_by (have_names row.left row.right) seen) (count_by (have_names row.left row.right) (seen ++ m ∷ [])) so_far new_count all;
      }
    where
      one_more : (a n c d : ℕ) → a ≡ capped c → n ≡ 1 → d ≡ c + 1 → capped (a + n) ≡ capped d
      one_more a n c d p q r = omega (arith, p, q, r)

  fresh : All (λ other. names_of other ≡ names_in new → ⊥) seen → IsNamed (seen ++ m ∷ []) new
  fresh none =
      let apart : All (λ other. have_names new.left new.right other ≡ false) seen = λ k d below. names_apart new.left new.right (get_or seen k d) (none k d below) in
      let all = count_push (have_names new.left new.right) seen m ∙ ap (λ (t : Bool). count_by (have_names new.left new.right) seen + cond t 1 0) (names_same new.left new.right m (sym new_names)) in
      let no_earlier = count_none (have_names new.left new.right) seen apart in
      record {
        one = m;
        there = subst (λ (k : ℕ). slice_get (seen ++ m ∷ []) k ≡ Some m) (sym new_first) (get_last seen m);
        left = sym (ap (λ (p : PlaceName × PlaceName). p.0) new_names);
        right = sym (ap (λ (p : PlaceName × PlaceName). p.1) new_names);
        first = subst (λ (ms : List Meeting). All (λ other. have_names new.left new.right other ≡ false) ms)
            (sym (ap (λ (k : ℕ). take k (seen ++ m ∷ [])) new_first ∙ take_first (length seen) seen (m ∷ []) (omega arith) ∙ take_all (length seen) seen (omega arith))) apart;
        count = first_one new.group.count (count_by (have_names new.left new.right) seen) (count_by (have_names new.left new.right) (seen ++ m ∷ [])) new_count no_earlier all;
      }
    where
      first_one : (n c d : ℕ) → n ≡ 1 → c ≡ 0 → d ≡ c + 1 → n ≡ capped d
      first_one n c d p q r = omega (arith, p, q, r)

  -- rows begin before the pair
  earlier : (rows : List Named) → All (IsNamed seen) rows → All (λ row. row.group.first < new.group.first) rows
  earlier rows each k d below = let named = each k d below in let within = get_long seen (get_or rows k d).group.first named.one named.there in let last = new_first in omega (arith, within, last)

  put_later : (first : ℕ) (rows : List Named) → All (λ row. first < row.group.first) rows → first < new.group.first → All (λ row. first < row.group.first) (put_named rows new)
  put_later first [] all less = All-cons (λ row. first < row.group.first) new [] less (All-nil (λ row. first < row.group.first))
  put_later first (row ∷ rows) all less = by_same (have_same row new) (put_later first rows (All-tail (λ r. first < r.group.first) row rows all) less)
    where
      own : first < row.group.first
      own = All-head (λ r. first < r.group.first) row rows all

      rest : All (λ r. first < r.group.first) rows
      rest = All-tail (λ r. first < r.group.first) row rows all

      by_same : (b : Bool) → All (λ r. first < r.group.first) (put_named rows new) → All (λ r. first < r.group.first) (cond b (counted row new ∷ rows) (row ∷ put_named rows new))
      by_same true later = All-cons (λ r. first < r.group.first) (counted row new) rows own rest
      by_same false later = All-cons (λ r. first < r.group.first) row (put_named rows new) own later

  put_ascends : (rows : List Named) → All (λ row. row.group.first < new.group.first) rows → DoRowsAscend rows → DoRowsAscend (put_named rows new)
  put_ascends [] before ascend = (All-nil (λ later. new.group.first < later.group.first), tt)
  put_ascends (row ∷ rows) before ascend = by_same (have_same row new) (put_ascends rows (All-tail (λ r. r.group.first < new.group.first) row rows before) ascend.1)
    where
      by_same : (b : Bool) → DoRowsAscend (put_named rows new) → DoRowsAscend (cond b (counted row new ∷ rows) (row ∷ put_named rows new))
      by_same true later = (ascend.0, ascend.1)
      by_same false later = (put_later row.group.first rows ascend.0 (All-head (λ r. r.group.first < new.group.first) row rows before), later)

  pub named_more : (rows : List Named) → AreNamed seen rows → AreNamed (seen ++ m ∷ []) (put_named rows new)
  named_more rows are = record {
    each = put_each names_in have_same same_is same_on counted merged names_of IsNamed seen (m ∷ []) new others merges fresh rows are.each are.once are.all;
    all = put_all names_in have_same same_is same_on counted merged names_of IsNamed seen (m ∷ []) new others merges fresh rows
        (All-cons (λ other. names_of other ≡ names_in new) m [] (sym new_names) (All-nil (λ other. names_of other ≡ names_in new))) are.all;
    once = put_apart names_in have_same same_is same_on counted merged rows new are.once;
    ascend = put_ascends rows (earlier rows are.each) are.ascend;
  }

-- place by place
pub named_at_place : (met : List Meeting) (place next : ℕ) (d : Meeting) (x : Meeting) (new : Named) (rows more : List Named) → place < length met → next ≡ place + 1 → x ≡ get_or met place d → new ≡ named_at place x
    → more ≡ put_named rows new → AreNamed (take place met) rows → AreNamed (take next met) more
named_at_place met place next d x new rows more within is_next is new_is added are =
    let long : length (take place met) ≡ place = long_at place met (omega (arith, within)) in
    subst (λ (ms : List Meeting). AreNamed ms more) (ap (λ (y : Meeting). take place met ++ y ∷ []) is ∙ sym (take_more met place d within) ∙ ap (λ (n : ℕ). take n met) (sym is_next))
    (subst (λ (rs : List Named). AreNamed (take place met ++ x ∷ []) rs) (sym added)
    (named_more (take place met) x new (new_is ∙ ap (λ (n : ℕ). named_at n x) (sym long)) rows are))
  where
    long_at : (n : ℕ) (xs : List Meeting) → n ≤ length xs → length (take n xs) ≡ n
    long_at zero xs h = refl
    long_at (suc n) [] h = absurd (omega arith)
    long_at (suc n) (y ∷ xs) h = let rest = long_at n xs (omega (arith, h)) in omega (arith, rest)

pub named_none : AreNamed [] []
named_none = record {
  each = All-nil (IsNamed []);
  all = All-nil (λ pair. Any (λ row. names_in row ≡ names_of pair) []);
  once = tt;
  ascend = tt;
}

-- ---- without names

group_is : (met : List Meeting) (row : Named) → IsNamed met row → IsGroup met row.group
group_is met row named = record {
  one = named.one;
  there = named.there;
  first = subst (λ (n : PlaceName). All (λ other. have_names n named.one.right.name other ≡ false) (take row.group.first met)) (sym named.left)
      (subst (λ (n : PlaceName). All (λ other. have_names row.left n other ≡ false) (take row.group.first met)) (sym named.right) named.first);
  count = subst (λ (n : PlaceName). row.group.count ≡ capped (count_by (have_names n named.one.right.name) met)) (sym named.left)
      (subst (λ (n : PlaceName). row.group.count ≡ capped (count_by (have_names row.left n) met)) (sym named.right) named.count);
}

some_in : (met : List Meeting) (pair : Meeting) (rows : List Named) → All (IsNamed met) rows → Any (λ row. names_in row ≡ names_of pair) rows → Any (IsIn met pair) (map (λ row. row.group) rows)
some_in met pair [] each (k, x, below, is, p) = absurd (omega arith)
some_in met pair (row ∷ rows) each some =
    let named : IsNamed met row = All-head (IsNamed met) row rows each in
    from_cases (λ r. names_in r ≡ names_of pair) (Any (IsIn met pair) (row.group ∷ map (λ r. r.group) rows)) row rows
    (λ e. in_front (IsIn met pair) row.group (map (λ r. r.group) rows) (
      named.one,
      named.there,
      names_same named.one.left.name named.one.right.name pair (sym e ∙ sym (ap (λ (n : PlaceName). let p : PlaceName × PlaceName = (n, named.one.right.name) in p) named.left
          ∙ ap (λ (n : PlaceName). let p : PlaceName × PlaceName = (row.left, n) in p) named.right)),
    ))
    (λ there. in_rest (IsIn met pair) row.group (map (λ r. r.group) rows) (some_in met pair rows (All-tail (IsNamed met) row rows each) there)) some

ascends : (rows : List Named) → DoRowsAscend rows → DoAscend (map (λ row. row.group) rows)
ascends [] ascend = tt
ascends (row ∷ rows) ascend = (All-map (λ (later : Group). row.group.first < later.first) (λ (r : Named). r.group) rows ascend.0, ascends rows ascend.1)

pub groups_are : (met : List Meeting) (rows : List Named) → AreNamed met rows → AreGroups met (map (λ row. row.group) rows)
groups_are met rows are = record {
  each = All-map (IsGroup met) (λ (r : Named). r.group) rows (λ k d below. group_is met (get_or rows k d) (are.each k d below));
  all = λ k d below. some_in met (get_or met k d) rows are.each (are.all k d below);
  ascend = ascends rows are.ascend;
}
