-- A history that grows.
use Rattle.coord_core.proofs.Running.{sees_itself}
use Rattle.coord_core.specs.Desks.{SeesOn, own_entries}
use Rattle.coord_core.specs.Histories.{History}
use Rattle.std.proofs.Common.{◌&&◌, ◌||◌, Bool, List, not, ap, append_assoc, arith, false, inl, inr, ne_eqb, refl, rules, subst, sym, true, ℕ, ◌≡◌, ◌≢◌, ◌+◌, ◌==◌, [], ◌∷◌, ◌++◌, ◌∙◌}
use Rattle.std.proofs.lemmas.List.{append-nil, length-append}
use Rattle.std.proofs.lemmas.List.Elements.{filter-append}
use Rattle.sync_types.specs.Views.{EntryView, StartView}
use Rattle.ticket_board.specs.Passes.{no_history}
use Rattle.ticket_board.specs.Rule.{AreLawful, Fits, fresh_part, length_with_mark, mark_length, one_if}
use Rattle.ticket_board.specs.Steps.{Goes, with_count, with_seen}
use Rattle.ticket_board.specs.declared.rule.ChannelPart.{ChannelPart}

abbrev pub history : List EntryView → Bool → History
history es b = record { entries = es; closed = b }

pub own_append : (c : ℕ) (xs ys : List EntryView) → own_entries c (xs ++ ys) ≡ own_entries c xs ++ own_entries c ys
own_append c xs ys = filter-append (λ (e : EntryView). e.channel == c) xs ys

-- of the whole history a channel has what it had of the part that was seen
pub own_seen : (c : ℕ) (seen log : History) → SeesOn c seen log → own_entries c log.entries ≡ own_entries c seen.entries
own_seen c seen log s = ap (own_entries c) s.begins ∙ (own_append c seen.entries s.more ∙ (ap (λ (r : List EntryView). own_entries c seen.entries ++ r) s.others ∙ append-nil (own_entries c seen.entries)))

pub own_whole : (start : StartView) (log : History) (p : ChannelPart) → Fits start log p → own_entries p.channel log.entries ≡ p.mine
own_whole start log p f = own_seen p.channel p.seen log f.sees ∙ f.mine

pub differ : false ≡ true → ⊥
differ e = search rules

pub fits_fresh : (start : StartView) (log : History) (c : ℕ) → log ≡ no_history → Fits start log (fresh_part c)
fits_fresh start log c is = record { lawful = tt; sees = record { more = []; begins = ap (λ (h : History). h.entries) is; others = refl; closed = λ e. is }; mine = refl; shut = λ on. absurd (differ on) }

pub fits_seen : (start : StartView) (log : History) (p : ChannelPart) → AreLawful start log.entries → Fits start log p → Fits start log (with_seen log p)
fits_seen start log p lawful f = record { lawful = lawful; sees = sees_itself p.channel log; mine = own_whole start log p f; shut = λ on. ap (λ (h : History). h.closed) (f.sees.closed (f.shut on)) ∙ f.shut on }

pub fits_counted : (start : StartView) (log : History) (p : ChannelPart) → AreLawful start log.entries → ((with_count log p).shut ≡ true → log.closed ≡ true) → Fits start log (with_count log p)
fits_counted start log p lawful shut = record { lawful = lawful; sees = sees_itself p.channel log; mine = refl; shut = shut }

none_in : (c : ℕ) (e : EntryView) (b : Bool) → (e.channel == c) ≡ b → b ≡ false → own_entries c (e ∷ []) ≡ []
none_in c e true is f = absurd (differ (sym f))
none_in c e false is f = rw is refl

-- an entry of another channel
pub fits_more : (start : StartView) (es : List EntryView) (e : EntryView) (p : ChannelPart) → e.channel ≢ p.channel → Fits start (history es false) p → Fits start (history (es ++ e ∷ []) false) p
fits_more start es e p other f = record {
  lawful = f.lawful;
  sees = record {
    more = f.sees.more ++ e ∷ [];
    begins = ap (λ (xs : List EntryView). xs ++ e ∷ []) f.sees.begins ∙ append_assoc p.seen.entries f.sees.more (e ∷ []);
    others = own_append p.channel f.sees.more (e ∷ []) ∙ (ap (λ (r : List EntryView). r ++ own_entries p.channel (e ∷ [])) f.sees.others ∙ none_in p.channel e (e.channel == p.channel) refl (ne_eqb e.channel p.channel other));
    closed = λ is. absurd (differ (ap (λ (h : History). h.closed) (f.sees.closed is) ∙ is));
  };
  mine = f.mine;
  shut = f.shut;
}

pub fits_shut : (start : StartView) (es : List EntryView) (p : ChannelPart) → Fits start (history es false) p → Fits start (history es true) p
fits_shut start es p f = record {
  lawful = f.lawful;
  sees = record {
    more = f.sees.more;
    begins = f.sees.begins;
    others = f.sees.others;
    closed = λ is. absurd (differ (ap (λ (h : History). h.closed) (f.sees.closed is) ∙ is));
  };
  mine = f.mine;
  shut = f.shut;
}

-- what another channel has seen stays a beginning with all of its entries, where the history goes on from p
pub goes_fits : (start : StartView) (p q : ChannelPart) (after : History) (k : ℕ) → Goes start p after k → p.channel ≢ q.channel → Fits start p.seen q → Fits start after q
goes_fits start p q after k (inl same) other f = subst (λ (h : History). Fits start h q) (sym same.0) f
goes_fits start p q after k (inr (unshut, one, inl made)) other f = let e : EntryView = made.0 in
    subst (λ (h : History). Fits start h q) (sym made.3) (fits_more start p.seen.entries e q (λ is. other (sym made.1 ∙ is)) (subst (λ (b : Bool). Fits start (history p.seen.entries b) q) unshut f))
goes_fits start p q after k (inr (unshut, one, inr is)) other f =
    subst (λ (h : History). Fits start h q) (sym is) (fits_shut start p.seen.entries q (subst (λ (b : Bool). Fits start (history p.seen.entries b) q) unshut f))

pub goes_lawful : (start : StartView) (p : ChannelPart) (after : History) (k : ℕ) → Goes start p after k → AreLawful start p.seen.entries → AreLawful start after.entries
goes_lawful start p after k (inl same) lawful = subst (λ (h : History). AreLawful start h.entries) (sym same.0) lawful
goes_lawful start p after k (inr (unshut, one, inl made)) lawful = subst (λ (h : History). AreLawful start h.entries) (sym made.3) made.2
goes_lawful start p after k (inr (unshut, one, inr is)) lawful = subst (λ (h : History). AreLawful start h.entries) (sym is) lawful

pub goes_length : (start : StartView) (p : ChannelPart) (after : History) (k : ℕ) → Goes start p after k → length_with_mark p.seen + k ≡ length_with_mark after
goes_length start p after k (inl same) = let a = ap length_with_mark same.0 in let z = same.1 in omega (arith, a, z)
goes_length start p after k (inr (unshut, one, inl made)) = let e : EntryView = made.0 in let a = ap length_with_mark made.3 in let m : mark_length p.seen.closed ≡ 0 = ap mark_length unshut in let long = length-append p.seen.entries (e ∷ []) in omega (arith, a, m, one, long)
goes_length start p after k (inr (unshut, one, inr is)) = let a = ap length_with_mark is in let m : mark_length p.seen.closed ≡ 0 = ap mark_length unshut in omega (arith, a, m, one)

-- ---- the closing mark

-- a closed history goes on as it is
pub goes_closed : (start : StartView) (p : ChannelPart) (after : History) (k : ℕ) → Goes start p after k → p.seen.closed ≡ true → after.closed ≡ true
goes_closed start p after k (inl same) on = ap (λ (h : History). h.closed) same.0 ∙ on
goes_closed start p after k (inr (unshut, one, made)) on = absurd (differ (sym unshut ∙ on))

-- where the mark was put, before or now, the history after it is closed
pub mark_stays : (was before after : Bool) → (was ≡ true → after ≡ true) → (was || (not before && after)) ≡ true → after ≡ true
mark_stays true before after earlier on = earlier refl
mark_stays false true after earlier on = absurd (differ on)
mark_stays false false after earlier on = on

pub counted_mark : (start : StartView) (p : ChannelPart) (after : History) (k : ℕ) → Goes start p after k → (p.shut ≡ true → p.seen.closed ≡ true) → (with_count after p).shut ≡ true → after.closed ≡ true
counted_mark start p after k goes seen = mark_stays p.shut p.seen.closed after.closed (λ on. goes_closed start p after k goes (seen on))

-- one mark more was put exactly where the history has it and had it not
marks_grow : (was before after : Bool) → (was ≡ true → before ≡ true) → (before ≡ true → after ≡ true) → one_if before + one_if (was || (not before && after)) ≡ one_if after + one_if was
marks_grow true true true seen stays = refl
marks_grow false true true seen stays = refl
marks_grow true true false seen stays = absurd (differ (stays refl))
marks_grow false true false seen stays = absurd (differ (stays refl))
marks_grow true false true seen stays = absurd (differ (seen refl))
marks_grow true false false seen stays = absurd (differ (seen refl))
marks_grow false false true seen stays = refl
marks_grow false false false seen stays = refl

pub goes_marks : (start : StartView) (p : ChannelPart) (after : History) (k : ℕ) → Goes start p after k → (p.shut ≡ true → p.seen.closed ≡ true)
    → one_if p.seen.closed + one_if (with_count after p).shut ≡ one_if after.closed + one_if p.shut
goes_marks start p after k goes seen = marks_grow p.shut p.seen.closed after.closed seen (goes_closed start p after k goes)
