-- What a line says is what the definition by its fronts gives.
use Rattle.std.proofs.Common.{◌≡◌, ◌≢◌, ℕ, zero, suc, ◌+◌, ◌-◌, ◌<◌, ◌≤◌, true, not, List, [], ◌∷◌, ◌++◌, length, take, drop, get_or, IfOk, Result, Ok, Err, refl, sym, ◌∙◌, ap, subst, arith}
use Rattle.std.specs.List.{list_all, prefix_len}
use Rattle.std.proofs.lemmas.Bool.{and_parts, and_from, cond-true, both_ways, not-true}
use Rattle.std.proofs.lemmas.List.{take-append-drop, length-append, length-take-le, length-drop, drop-drop, drop_at, take_at, append-nil}
use Rattle.block_scanner.specs.declared.Kind.{Kind}
use Rattle.block_scanner.specs.declared.ScanFault.{ScanFault}
use Rattle.block_scanner.specs.declared.ScanFault.TheVariants.{BadByte, OpenText, NoMemory}
use Rattle.block_scanner.specs.declared.Token.{Token}
use Rattle.block_scanner.specs.WordsView.{WordsView}
use Rattle.block_scanner.specs.declared.beginnings.Front.{Front}
use Rattle.block_scanner.specs.declared.beginnings.Front.TheVariants.{Blank, Comment, Stands, Forbidden, Unclosed}
use Rattle.block_scanner.specs.Bytes.{is_blank}
use Rattle.block_scanner.specs.Front.{front, text_front}
use Rattle.block_scanner.specs.Tokenisation.{HasForm, HasNoQuote, IsLongest, BeginsNoToken, Leaves, EndsLine, Says, Answers, AreFormed}
use Rattle.block_scanner.specs.Scanned.{IsScanned}
use Rattle.block_scanner.specs.Texts.{text_of}
use Rattle.block_scanner.specs.Tokens.{before, go_on, tokens_from, tokens_of, Scans}
use Rattle.block_scanner.proofs.FormLaws.{Sound, front_sound, no_quote, position_none}
use Rattle.block_scanner.proofs.Prefixes.{prefix_len-append}
use Rattle.block_scanner.proofs.ReachLaws.{reach, form_is_filled, front-quote}
use Rattle.block_scanner.proofs.Steps.{onto, tokens_from-skip}

-- a token of the byte at a place and so many more
abbrev token_from : Kind → ℕ → ℕ → Token
token_from kind at more = record { kind = kind; start = at; end = at + 1 + more }

-- where the longest token is known, it is what stands there
token_front : (k : Kind) (b : ℕ) (txt tail : List ℕ) → HasForm k (b ∷ txt) → IsLongest (b ∷ txt) (b ∷ txt ++ tail) → front b (txt ++ tail) ≡ Stands k (length txt)
token_front k b txt tail form longest =
    let bs = txt ++ tail in
    let r = reach k b txt tail form in
    let sound : Sound b bs (Stands r.found r.more) = subst (λ (f : Front). Sound b bs f) r.stands (front_sound b bs) in
    let whole : b ∷ txt ++ tail ≡ (b ∷ take r.more bs) ++ drop r.more bs = ap (λ l. b ∷ l) (sym (take-append-drop r.more bs)) in
    let most : suc (length (take r.more bs)) ≤ suc (length txt) = longest r.found (b ∷ take r.more bs) (drop r.more bs) whole sound.1 in
    let taken : length (take r.more bs) ≡ r.more = length-take-le r.more bs sound.0 in
    let long : suc (length txt) ≤ suc r.more = r.long in
    let as_long : r.more ≡ length txt = omega arith in
    let same : k ≡ r.found = r.same (omega arith) in
    r.stands ∙ ap (λ x. Stands x r.more) (sym same) ∙ ap (λ n. Stands k n) as_long

-- where a token stands, every front that has the form of a token is at most as long
stands_longest : (k : Kind) (n b : ℕ) (bs : List ℕ) → front b bs ≡ Stands k n → n ≤ length bs → IsLongest (b ∷ take n bs) (b ∷ bs)
stands_longest k n b bs stands fits kind [] tail whole form = omega arith
stands_longest k n b bs stands fits kind (c ∷ txt) tail whole form =
    let r = reach kind c txt tail form in
    let first : b ≡ c = cc in
    let following : bs ≡ txt ++ tail = cc in
    let same : Stands k n ≡ Stands r.found r.more = sym stands ∙ ap (λ x. front x bs) first ∙ ap (front c) following ∙ r.stands in
    let more : n ≡ r.more = cc in
    let taken : length (take n bs) ≡ n = length-take-le n bs fits in
    let long = r.long in
    omega arith

-- where none stands, none begins
none_begins : (b : ℕ) (bs : List ℕ) → front b bs ≡ Forbidden → BeginsNoToken (b ∷ bs)
none_begins b bs none kind [] tail whole form = form_is_filled kind form
none_begins b bs none kind (c ∷ txt) tail whole form =
    let r = reach kind c txt tail form in
    let first : b ≡ c = cc in
    let following : bs ≡ txt ++ tail = cc in
    let same : Forbidden ≡ Stands r.found r.more = sym none ∙ ap (λ x. front x bs) first ∙ ap (front c) following ∙ r.stands in
    cc

none_stands : (b : ℕ) (bs : List ℕ) → not (is_blank b) ≡ true → b ≢ 59 → b ≢ 34 → BeginsNoToken (b ∷ bs) → front b bs ≡ Forbidden
none_stands b bs blank comment quote none = by (front b bs) (front_sound b bs)
  where
    by : (f : Front) → Sound b bs f → f ≡ Forbidden
    by Blank h = absurd (both_ways (is_blank b) (not-true (is_blank b) blank) h)
    by Comment h = absurd (comment h)
    by (Stands kind more) h = absurd (none kind (b ∷ take more bs) (drop more bs) (ap (λ l. b ∷ l) (sym (take-append-drop more bs))) h.1)
    by Forbidden h = refl
    by Unclosed h = absurd (quote h.0)

front-blank : (b : ℕ) (bs : List ℕ) → is_blank b ≡ true → front b bs ≡ Blank
unfolding front
front-blank b bs h = cond-true (is_blank b) _ _ h

front-semicolon : (bs : List ℕ) → front 59 bs ≡ Comment
unfolding front
front-semicolon bs = refl

tokens_from-first : (at b : ℕ) (bs : List ℕ) (f : Front) → front b bs ≡ f → tokens_from at (b ∷ bs) zero ≡ go_on f at (tokens_from (at + 1) bs)
unfolding tokens_from
tokens_from-first at b bs f stands = ap (λ x. go_on x at (tokens_from (at + 1) bs)) stands

tokens_from-nil : (at : ℕ) → tokens_from at [] zero ≡ Ok []
unfolding tokens_from
tokens_from-nil at = refl

-- what is said of the bytes from a place on
abbrev pub Reads : ℕ → List ℕ → Result (List Token) ScanFault → Type 0
Reads at bytes (Ok tokens) = (place : ℕ) × (rest : List ℕ) × Leaves at bytes tokens place rest × EndsLine rest
Reads at bytes (Err (BadByte place)) = (tokens : List Token) × (byte : ℕ) × (rest : List ℕ) × Leaves at bytes tokens place (byte ∷ rest)
    × (not (is_blank byte) ≡ true) × (byte ≢ 59) × (byte ≢ 34) × BeginsNoToken (byte ∷ rest)
Reads at bytes (Err (OpenText place)) = (tokens : List Token) × (inside : List ℕ) × Leaves at bytes tokens place (34 ∷ inside) × HasNoQuote inside
Reads at bytes (Err NoMemory) = ⊥

-- one more blank in front
blank_leaves : (at b : ℕ) (bs : List ℕ) (ts : List Token) (place : ℕ) (rest : List ℕ) → is_blank b ≡ true → Leaves (at + 1) bs ts place rest → Leaves at (b ∷ bs) ts place rest
blank_leaves at b bs [] place rest blank (gap, whole, blanks, there) =
    (b ∷ gap, ap (λ l. b ∷ l) whole, and_from (is_blank b) (list_all is_blank gap) blank blanks, omega arith)
blank_leaves at b bs (t ∷ ts) place rest blank (gap, text, tail, whole, blanks, start, end, form, longest, following) =
    (b ∷ gap, text, tail, ap (λ l. b ∷ l) whole, and_from (is_blank b) (list_all is_blank gap) blank blanks, omega arith, end, form, longest, following)

blank_reads : (at b : ℕ) (bs : List ℕ) (o : Result (List Token) ScanFault) → is_blank b ≡ true → Reads (at + 1) bs o → Reads at (b ∷ bs) o
blank_reads at b bs (Ok ts) blank h = (h.0, h.1, blank_leaves at b bs ts h.0 h.1 blank h.2, h.3)
blank_reads at b bs (Err (BadByte place)) blank h = (h.0, h.1, h.2, blank_leaves at b bs h.0 place (h.1 ∷ h.2) blank h.3, h.4, h.5, h.6, h.7)
blank_reads at b bs (Err (OpenText place)) blank h = (h.0, h.1, blank_leaves at b bs h.0 place (34 ∷ h.1) blank h.2, h.3)
blank_reads at b bs (Err NoMemory) blank h = h

-- one more token in front
token_leaves : (at b : ℕ) (bs : List ℕ) (k : Kind) (n : ℕ) (ts : List Token) (place : ℕ) (rest : List ℕ) → front b bs ≡ Stands k n → n ≤ length bs → HasForm k (b ∷ take n bs)
    → Leaves (at + 1 + n) (drop n bs) ts place rest → Leaves at (b ∷ bs) (token_from k at n ∷ ts) place rest
token_leaves at b bs k n ts place rest stands fits form following =
    let whole : b ∷ bs ≡ b ∷ take n bs ++ drop n bs = ap (λ l. b ∷ l) (sym (take-append-drop n bs)) in
    let taken : length (take n bs) ≡ n = length-take-le n bs fits in
    let longest = subst (λ (l : List ℕ). IsLongest (b ∷ take n bs) l) whole (stands_longest k n b bs stands fits) in
    ([], b ∷ take n bs, drop n bs, whole, refl, omega arith, omega arith, form, longest, following)

token_reads : (at b : ℕ) (bs : List ℕ) (k : Kind) (n : ℕ) (o : Result (List Token) ScanFault) → front b bs ≡ Stands k n → n ≤ length bs → HasForm k (b ∷ take n bs)
    → Reads (at + 1 + n) (drop n bs) o → Reads at (b ∷ bs) (before (token_from k at n) o)
token_reads at b bs k n (Ok ts) stands fits form h = (h.0, h.1, token_leaves at b bs k n ts h.0 h.1 stands fits form h.2, h.3)
token_reads at b bs k n (Err (BadByte place)) stands fits form h =
    (token_from k at n ∷ h.0, h.1, h.2, token_leaves at b bs k n h.0 place (h.1 ∷ h.2) stands fits form h.3, h.4, h.5, h.6, h.7)
token_reads at b bs k n (Err (OpenText place)) stands fits form h =
    (token_from k at n ∷ h.0, h.1, token_leaves at b bs k n h.0 place (34 ∷ h.1) stands fits form h.2, h.3)
token_reads at b bs k n (Err NoMemory) stands fits form h = h

-- the bytes from a place on say what the definition gives
reads : (most at : ℕ) (bytes : List ℕ) → length bytes ≤ most → Reads at bytes (tokens_from at bytes zero)
reads most at [] h = subst (λ (o : Result (List Token) ScanFault). Reads at [] o) (sym (tokens_from-nil at)) (at, [], ([], refl, refl, omega arith), tt)
reads zero at (b ∷ bs) h = absurd (omega arith)
reads (suc most) at (b ∷ bs) h = by (λ place l small. reads most place l small) (front b bs) refl (front_sound b bs)
  where
    by : ((place : ℕ) (l : List ℕ) → length l ≤ most → Reads place l (tokens_from place l zero))
        → (f : Front) → front b bs ≡ f → Sound b bs f → Reads at (b ∷ bs) (tokens_from at (b ∷ bs) zero)
    by next Blank stands sound =
        subst (λ (o : Result (List Token) ScanFault). Reads at (b ∷ bs) o) (sym (tokens_from-first at b bs Blank stands))
        (blank_reads at b bs (tokens_from (at + 1) bs zero) sound (next (at + 1) bs (omega arith)))
    by next Comment stands sound =
        subst (λ (o : Result (List Token) ScanFault). Reads at (b ∷ bs) o) (sym (tokens_from-first at b bs Comment stands))
        (at, b ∷ bs, ([], refl, refl, omega arith), sound)
    by next (Stands k n) stands sound =
        let skip = tokens_from-skip n (at + 1) bs sound.0 in
        subst (λ (o : Result (List Token) ScanFault). Reads at (b ∷ bs) o) (sym (tokens_from-first at b bs (Stands k n) stands ∙ ap (before (token_from k at n)) skip))
        (token_reads at b bs k n (tokens_from (at + 1 + n) (drop n bs) zero) stands sound.0 sound.1
        (next (at + 1 + n) (drop n bs) (omega (arith, length-drop n bs))))
    by next Forbidden stands sound =
        subst (λ (o : Result (List Token) ScanFault). Reads at (b ∷ bs) o) (sym (tokens_from-first at b bs Forbidden stands))
        ([], b, bs, ([], refl, refl, omega arith), sound.0, sound.1, sound.2, none_begins b bs stands)
    by next Unclosed stands sound =
        subst (λ (o : Result (List Token) ScanFault). Reads at (b ∷ bs) o) (sym (tokens_from-first at b bs Unclosed stands))
        ([], bs, ([], ap (λ x. x ∷ bs) sound.0, refl, omega arith), sound.1)

-- blanks are passed
blanks_pass : (gap : List ℕ) (at : ℕ) (xs : List ℕ) → list_all is_blank gap ≡ true → tokens_from at (gap ++ xs) zero ≡ tokens_from (at + length gap) xs zero
blanks_pass [] at xs h = let same : at ≡ at + 0 = omega arith in ap (λ n. tokens_from n xs zero) same
blanks_pass (b ∷ gap) at xs h =
    let parts = and_parts (is_blank b) (list_all is_blank gap) h in
    let same : at + 1 + length gap ≡ at + suc (length gap) = omega arith in
    tokens_from-first at b (gap ++ xs) Blank (front-blank b (gap ++ xs) parts.0)
    ∙ blanks_pass gap (at + 1) xs parts.1 ∙ ap (λ n. tokens_from n xs zero) same

onto-nil : (o : Result (List Token) ScanFault) → o ≡ onto [] o
onto-nil (Ok ts) = refl
onto-nil (Err e) = refl

onto-cons : (t : Token) (ts : List Token) (o : Result (List Token) ScanFault) → before t (onto ts o) ≡ onto (t ∷ ts) o
onto-cons t ts (Ok us) = refl
onto-cons t ts (Err e) = refl

-- a token stands at a place and its bytes are passed
token_passes : (at : ℕ) (t : Token) (text tail : List ℕ) → HasForm t.kind text → IsLongest text (text ++ tail) → t.start ≡ at → t.end ≡ t.start + length text
    → tokens_from at (text ++ tail) zero ≡ before t (tokens_from t.end tail zero)
token_passes at t [] tail form longest start end = absurd (form_is_filled t.kind form)
token_passes at t (b ∷ txt) tail form longest start end =
    let stands = token_front t.kind b txt tail form longest in
    let ends : at + 1 + length txt ≡ t.end = omega arith in
    let fits : length txt ≤ length (txt ++ tail) = omega (arith, length-append txt tail) in
    let passed : tokens_from (at + 1) (txt ++ tail) (length txt) ≡ tokens_from t.end tail zero =
    tokens_from-skip (length txt) (at + 1) (txt ++ tail) fits
    ∙ ap (λ l. tokens_from (at + 1 + length txt) l zero) (drop_at txt tail (length txt) refl)
    ∙ ap (λ n. tokens_from n tail zero) ends in
    let token : token_from t.kind at (length txt) ≡ t =
    ap (λ (n : ℕ). token_with t.kind n (at + 1 + length txt)) (sym start) ∙ ap (λ (n : ℕ). token_with t.kind t.start n) ends in
    tokens_from-first at b (txt ++ tail) (Stands t.kind (length txt)) stands
    ∙ ap (before (token_from t.kind at (length txt))) passed
    ∙ ap (λ (u : Token). before u (tokens_from t.end tail zero)) token
  where
    token_with : Kind → ℕ → ℕ → Token
    token_with k s e = record { kind = k; start = s; end = e }

-- tokens that cover the bytes up to a place are those that the definition gives before it comes there
passes : (ts : List Token) (at : ℕ) (bytes : List ℕ) (place : ℕ) (rest : List ℕ) → Leaves at bytes ts place rest
    → tokens_from at bytes zero ≡ onto ts (tokens_from place rest zero)
passes [] at bytes place rest (gap, whole, blanks, there) =
    ap (λ l. tokens_from at l zero) whole ∙ blanks_pass gap at rest blanks ∙ ap (λ n. tokens_from n rest zero) (sym there) ∙ onto-nil (tokens_from place rest zero)
passes (t ∷ ts) at bytes place rest (gap, text, tail, whole, blanks, start, end, form, longest, following) =
    ap (λ l. tokens_from at l zero) whole ∙ blanks_pass gap at (text ++ tail) blanks
    ∙ token_passes (at + length gap) t text tail form longest start end
    ∙ ap (before t) (passes ts t.end tail place rest following)
    ∙ onto-cons t ts (tokens_from place rest zero)

ends : (place : ℕ) (rest : List ℕ) → EndsLine rest → tokens_from place rest zero ≡ Ok []
ends place [] h = tokens_from-nil place
ends place (b ∷ bs) h = tokens_from-first place b bs Comment (ap (λ x. front x bs) h ∙ front-semicolon bs)

-- what a line says is what the definition gives
pub says_alone : (line : List ℕ) (o : Result (List Token) ScanFault) → Says line o → o ≡ tokens_of line
says_alone line (Ok ts) h =
    sym (passes ts 0 line h.0 h.1 h.2 ∙ ap (onto ts) (ends h.0 h.1 h.3) ∙ ap (λ (l : List Token). Ok l) (append-nil ts))
says_alone line (Err (BadByte place)) h =
    let none = none_stands h.1 h.2 h.4 h.5 h.6 h.7 in
    sym (passes h.0 0 line place (h.1 ∷ h.2) h.3 ∙ ap (onto h.0) (tokens_from-first place h.1 h.2 Forbidden none))
says_alone line (Err (OpenText place)) h =
    let whole : prefix_len no_quote h.1 ≡ length h.1 =
    ap (prefix_len no_quote) (sym (append-nil h.1)) ∙ prefix_len-append no_quote h.1 [] h.3 ∙ omega arith in
    let stands : front 34 h.1 ≡ Unclosed = front-quote h.1 ∙ ap text_front (position_none h.1 whole) in
    sym (passes h.0 0 line place (34 ∷ h.1) h.2 ∙ ap (onto h.0) (tokens_from-first place 34 h.1 Unclosed stands))
says_alone line (Err NoMemory) h = absurd h

says_it : (line : List ℕ) (o : Result (List Token) ScanFault) → Reads 0 line o → Says line o
says_it line (Ok ts) h = h
says_it line (Err (BadByte place)) h = h
says_it line (Err (OpenText place)) h = h
says_it line (Err NoMemory) h = h

pub says : (line : List ℕ) → Says line (tokens_of line)
says line = says_it line (tokens_of line) (reads (length line) 0 line (omega arith))

-- an answer with the tokens or the fault of the line is what the line says
pub answers : (line : List ℕ) (answer : Result WordsView ScanFault) → Scans line answer → Answers line answer
answers line (Ok words) h = subst (λ (o : Result (List Token) ScanFault). Says line o) h.1 (says line)
answers line (Err (BadByte place)) h = subst (λ (o : Result (List Token) ScanFault). Says line o) h (says line)
answers line (Err (OpenText place)) h = subst (λ (o : Result (List Token) ScanFault). Says line o) h (says line)
answers line (Err NoMemory) h = tt

-- the slice of each token has the form of its kind
formed_from : (ts : List Token) (at : ℕ) (line bytes : List ℕ) (place : ℕ) (rest : List ℕ) → drop at line ≡ bytes → Leaves at bytes ts place rest → AreFormed line ts
formed_from [] at line bytes place rest from h k d within = absurd (omega arith)
formed_from (t ∷ ts) at line bytes place rest from (gap, text, tail, whole, blanks, start, end, form, longest, following) k d within =
    let here : drop t.start line ≡ text ++ tail =
    ap (λ n. drop n line) start ∙ sym (drop-drop (length gap) at line) ∙ ap (drop (length gap)) (from ∙ whole) ∙ drop_at gap (text ++ tail) (length gap) refl in
    let next : drop t.end line ≡ tail =
    ap (λ n. drop n line) end ∙ sym (drop-drop (length text) t.start line) ∙ ap (drop (length text)) here ∙ drop_at text tail (length text) refl in
    let long : t.end - t.start ≡ length text = omega arith in
    let slice : text_of line t ≡ text = ap (λ n. take n (drop t.start line)) long ∙ ap (take (length text)) here ∙ take_at text tail (length text) refl in
    by (subst (λ (l : List ℕ). HasForm t.kind l) (sym slice) form) (formed_from ts t.end line tail place rest next following) k d within
  where
    by : HasForm t.kind (text_of line t) → AreFormed line ts → AreFormed line (t ∷ ts)
    by first others zero d within = first
    by first others (suc k) d within = others k d (omega arith)

pub formed : (line : List ℕ) (ts : List Token) → tokens_of line ≡ Ok ts → AreFormed line ts
formed line ts h =
    let said = subst (λ (o : Result (List Token) ScanFault). Says line o) h (says line) in
    formed_from ts 0 line line said.0 said.1 refl said.2

pub formed_answer : (line : List ℕ) (answer : Result WordsView ScanFault) → Scans line answer → IfOk answer (λ words. AreFormed line words.tokens)
formed_answer line (Ok words) h = formed line words.tokens h.1
formed_answer line (Err e) h = tt

-- each token of a scanned line has the form of its kind
pub formed_at : (words : WordsView) (tokens : List Token) (i : ℕ) (d : Token) → IsScanned words → tokens ≡ words.tokens → i < length words.tokens
    → HasForm (get_or tokens i d).kind (text_of words.line (get_or tokens i d))
formed_at words tokens i d scanned same within =
    let has = λ (ts : List Token). HasForm (get_or ts i d).kind (text_of words.line (get_or ts i d)) in
    subst has (sym same) (formed words.line words.tokens scanned.read i d within)
