-- "A blank line is skipped, but joined where a line is open": so no joined line is blank, and none is to be skipped when lines are read.
use Rattle.std.specs.Prelude.{ℕ, ◌+◌, false, List, [], ◌∷◌, ◌++◌, ◌≡◌}
use Rattle.std.proofs.Common.{arith}
use Rattle.meaning.specs.declared.Fate.{Fate}
use Rattle.meaning.specs.declared.Fate.TheVariants.{Over, Unended, Whole}
use Rattle.meaning.specs.Base.{nil?}
use Rattle.meaning.specs.Refusal.{Answer, accepted, refused, accepted_then}
use Rattle.meaning.specs.Utf8.{Char, chars}
use Rattle.meaning.specs.Space.{white_char, trim_head, blank}
use Rattle.meaning.specs.Quote.{fresh, scan}
use Rattle.meaning.specs.Lines.{Line, Pending, Step, closed, open', settle, fate, join_one, join, joined, kept_lines, physical}
use Rattle.laws.specs.Cases.{on}
use Rattle.laws.specs.Chars.{chars_append}

head_append : (cs ds : List Char) → nil? (trim_head cs) ≡ false → nil? (trim_head (cs ++ ds)) ≡ false
head_append [] ds h = let z : ◌≡◌ {A = ℕ} 0 1 = cc in absurd (omega arith)
head_append (c ∷ cs) ds h = on (white_char c) (λ e. rw e (head_append cs ds (rw e at h))) (λ e. rw e)

-- a line joined to one that is not blank
blank_join : (t l : List ℕ) → blank t ≡ false → blank (t ++ (10 ∷ l)) ≡ false
unfolding blank
blank_join t l h = rw (chars_append 0 t (10 ∷ l) (omega arith) (λ a b. omega arith)) (head_append (chars 0 t) (chars 0 (10 ∷ l)) h)

abbrev pub NonBlank : List Line → Type 0
NonBlank [] = Unit {0}
NonBlank (l ∷ ls) = (blank l.text ≡ false) × NonBlank ls

abbrev Held : Pending → Type 0
Held closed = Unit {0}
Held (open' at t) = blank t ≡ false

abbrev Steps : Answer Step → Type 0
Steps (accepted s) = NonBlank s.out × Held s.pending
Steps (refused f i p) = Unit {0}

abbrev pub Joins : Answer (List Line) → Type 0
Joins (accepted ls) = NonBlank ls
Joins (refused f i p) = Unit {0}

settle_held : (at : ℕ) (t : List ℕ) (f : Fate) → blank t ≡ false → Steps (settle at t f)
settle_held at t Over h = tt
settle_held at t Unended h = (tt, h)
settle_held at t Whole h = ((h, tt), tt)

one_held : (p : Pending) (n : ℕ) (l : List ℕ) → Held p → Steps (join_one p n l)
unfolding join_one
one_held closed n l h = on (blank l) (λ e. rw e (tt, tt)) (λ e. rw e (settle_held n l (fate (scan fresh l)) e))
one_held (open' at t) n l h = settle_held at (t ++ (10 ∷ l)) (fate (scan fresh (t ++ (10 ∷ l)))) (blank_join t l h)

both : (a b : List Line) → NonBlank a → NonBlank b → NonBlank (a ++ b)
both [] b h k = k
both (l ∷ a) b h k = (h.0, both a b h.1 k)

join_held : (p : Pending) (n : ℕ) (ls : List (List ℕ)) → Held p → Joins (join p n ls)
join_held closed n [] h = tt
join_held (open' at t) n [] h = tt
join_held p n (l ∷ ls) h = go (join_one p n l) (one_held p n l h) (λ q k. join_held q (n + 1) ls k)
  where
    after : (o : List Line) (a : Answer (List Line)) → NonBlank o → Joins a → Joins (accepted_then a (λ r. accepted (o ++ r)))
    after o (accepted r) h k = both o r h k
    after o (refused f i q) h k = tt

    go : (a : Answer Step) → Steps a → ((q : Pending) → Held q → Joins (join q (n + 1) ls))
        → Joins (accepted_then a (λ s. accepted_then (join s.pending (n + 1) ls) (λ r. accepted (s.out ++ r))))
    go (accepted s) h k = after s.out (join s.pending (n + 1) ls) h.0 (k s.pending h.1)
    go (refused f i q) h k = tt

-- no joined line is blank
pub never_blank : (s : List ℕ) → Joins (joined s)
unfolding joined
never_blank s = join_held closed 1 (kept_lines (physical s)) tt
