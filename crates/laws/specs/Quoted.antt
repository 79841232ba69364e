-- A quoted text: how long it is, and that the old mode's string rules give the text back (W-203).
use Rattle.std.specs.Prelude.{ℕ, ◌+◌, ◌*◌, ◌≤◌, true, false, List, [], ◌∷◌, ◌++◌, ◌≡◌, refl, eqb, length}
use Rattle.std.proofs.Common.{append_assoc, sym, subst, ◌∙◌, arith, eqb-true, length-append}
use Rattle.meaning.specs.declared.StringByte.TheVariants.{Plain}
use Rattle.meaning.specs.declared.StringState.{StringState}
use Rattle.meaning.specs.declared.StringState.TheVariants.{Outside, Inside}
use Rattle.meaning.specs.Strings.{closed, act_of, decode, says_first}
use Rattle.meaning.specs.Quote.{state_after}
use Rattle.meaning.specs.Quoting.{letter_for, escaped, inner, quoted}
use Rattle.laws.specs.Cases.{on}
use Rattle.laws.specs.Segments.{Without}

-- ---- in two pieces, and how long

pub inner_append : (a b : List ℕ) → inner (a ++ b) ≡ inner a ++ inner b
inner_append [] b = refl
inner_append (x ∷ a) b = rw (inner_append a b, append_assoc)

-- one byte, or a backslash and a letter
pub escaped_short : (b : ℕ) → length (escaped b) ≤ 2
unfolding escaped
escaped_short b = on (eqb (letter_for b) 0) (λ e. rw e (omega arith)) (λ e. rw e (omega arith))

pub inner_short : (s : List ℕ) → length (inner s) ≤ 2 * length s
inner_short [] = omega arith
inner_short (b ∷ s) = rw length-append (omega (arith, escaped_short b, inner_short s))

pub quoted_short : (s : List ℕ) → length (quoted s) ≤ 2 + 2 * length s
unfolding quoted
quoted_short s = rw length-append (omega (arith, inner_short s))

-- ---- byte by byte

-- a byte that is written as it is
pub record Unchanged (b : ℕ) : Type 0 where
  pub no_quote : eqb b 34 ≡ false
  pub no_backslash : eqb b 92 ≡ false
  pub no_line_feed : eqb b 10 ≡ false

-- what holds of the five escapes, and of each byte that is written as it is, holds of every byte
pub by_escape : (P : ℕ → List ℕ → Type 0) → P 34 (92 ∷ 34 ∷ []) → P 92 (92 ∷ 92 ∷ []) → P 10 (92 ∷ 110 ∷ []) → P 9 (92 ∷ 116 ∷ []) → P 13 (92 ∷ 114 ∷ []) → ((b : ℕ) → Unchanged b → P b (b ∷ [])) → (b : ℕ) → P b (escaped b)
unfolding escaped letter_for
by_escape P quote back feed tab return other b =
    let at : (n : ℕ) → eqb b n ≡ true → P n (escaped n) → P b (escaped b) = λ n e h. subst (λ (x : ℕ). P x (escaped x)) (sym (eqb-true b n e)) h in
    on (eqb b 34) (λ e. at 34 e quote)
    (λ q. on (eqb b 92) (λ e. at 92 e back)
    (λ s. on (eqb b 10) (λ e. at 10 e feed)
    (λ l. on (eqb b 9) (λ e. at 9 e tab)
    (λ t. on (eqb b 13) (λ e. at 13 e return)
    (λ r. rw (q, s, l, t, r) (other b (record { no_quote = q; no_backslash = s; no_line_feed = l })))))))

-- ---- the old mode's rules

-- a byte between the quotes says itself
says : (rest : List ℕ) (b : ℕ) → decode Plain (escaped b ++ rest) ≡ says_first (b ∷ []) (length (escaped b)) (decode Plain rest)
unfolding act_of
says rest =
    by_escape (λ b e. decode Plain (e ++ rest) ≡ says_first (b ∷ []) (length e) (decode Plain rest)) (spans 34) (spans 92) (spans 10) (spans 9) (spans 13)
    (λ b u. rw (u.no_quote, u.no_backslash))
  where
    spans : (b : ℕ) → says_first [] 0 (says_first (b ∷ []) 2 (decode Plain rest)) ≡ says_first (b ∷ []) 2 (decode Plain rest)
    spans b = let e : 0 + (2 + (decode Plain rest).span) ≡ 2 + (decode Plain rest).span = omega arith in rw e

-- the text that stands between the quotes, with the closing quote
pub unquote : (s rest : List ℕ) → decode Plain (inner s ++ (34 ∷ rest)) ≡ record { how = closed; bytes = s; span = length (inner s) + 1 }
unfolding act_of
unquote [] rest = refl
unquote (b ∷ s) rest =
    rw append_assoc (says (inner s ++ (34 ∷ rest)) b ∙ rw (unquote s rest, length-append)
    (let e : length (escaped b) + (length (inner s) + 1) ≡ length (escaped b) + length (inner s) + 1 = omega arith in rw e))

-- the string state after these bytes
abbrev pub state_over : StringState → List ℕ → StringState
state_over st [] = st
state_over st (b ∷ s) = state_over (state_after st b) s

-- in a string a byte that is written as it is changes nothing
pub stays_inside : (b : ℕ) → Unchanged b → state_after Inside b ≡ Inside
unfolding state_after
stays_inside b u = rw (u.no_backslash, u.no_quote)

inside : (s : List ℕ) → state_over Inside (inner s ++ (34 ∷ [])) ≡ Outside
unfolding state_after
inside [] = refl
inside (b ∷ s) =
    rw append_assoc (by_escape (λ b e. state_over Inside (e ++ (inner s ++ (34 ∷ []))) ≡ Outside) (inside s) (inside s) (inside s) (inside s) (inside s)
    (λ b u. subst (λ (st : StringState). state_over st (inner s ++ (34 ∷ [])) ≡ Outside) (sym (stays_inside b u)) (inside s)) b)

-- a quoted text ends outside strings, as it began
pub quoted_outside : (s : List ℕ) → state_over Outside (quoted s) ≡ Outside
unfolding quoted state_after
quoted_outside s = inside s

-- ---- no line ends in it

unfed : (s : List ℕ) → Without 10 (inner s ++ (34 ∷ []))
unfed [] = (refl, tt)
unfed (b ∷ s) =
    rw append_assoc (by_escape (λ b e. Without 10 (e ++ (inner s ++ (34 ∷ [])))) (refl, (refl, unfed s)) (refl, (refl, unfed s)) (refl, (refl, unfed s))
    (refl, (refl, unfed s)) (refl, (refl, unfed s)) (λ b u. (u.no_line_feed, unfed s)) b)

pub quoted_unfed : (s : List ℕ) → Without 10 (quoted s)
unfolding quoted
quoted_unfed s = (refl, unfed s)
