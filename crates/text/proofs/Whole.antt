-- The whole reading: laying, then the check, is 01's joined lines.
use Rattle.std.specs.Prelude.{Result, Ok, Err}
use Prim.Native.Nat.{ℕ, zero, suc, ◌+◌, ◌-◌, ◌≤◌, ◌<◌}
use mathlib.Core.Bool.{Bool, true, false}
use mathlib.Core.List.{List, [], ◌∷◌, ◌++◌, append_assoc}
use mathlib.Core.Path.{◌≡◌, refl, sym, ap, ◌∙◌}
use native.Mathlib.Omega.{arith}
use native.Mathlib.Numerals.{add-one}
use borrow.Author.Tests.{lt-ltb, le-ltb, ltb-true, ltb-false, eqb-true, eqb-false, eq-eqb}
use lib.Dec.{eqb, ltb}
use lib.ListN.{length, get_or, take, drop, length-drop, length-append}
use lib.Seq.{take_at, drop_at, length-take-le}
use Rattle.meaning.specs.declared.Limits.{Limits}
use Rattle.meaning.specs.Base.{pick, before}
use Rattle.meaning.specs.declared.StringState.TheVariants.{Outside}
use Rattle.meaning.specs.Quote.{up_to}
use Rattle.meaning.specs.Numbered.{number}
use Rattle.meaning.specs.Refusal.{Answer, accepted, refused, at_line}
use Rattle.meaning.specs.Utf8.{valid}
use Rattle.meaning.specs.Lines.{Line, closed, join, joined, drop_cr, kept, kept_lines, physical}
use Rattle.meaning.specs.Lines as meant
use Rattle.laws.specs.Cases.{on}
use Rattle.meaning.specs.declared.Refused.TheVariants.{TextTooLong, NotUtf8}
use Rattle.text.specs.declared.Laid.{Laid}
use Rattle.text.specs.declared.AtLine.{AtLine}
use Rattle.text.specs.Laid.{lines_of, laid, over, first_line, Begins, Lays}
use Rattle.text.specs.Answers.{answer_of, counted, measured, Checks, Small, Roomy, Reads}
use Rattle.text.proofs.Cuts.{before_fits, physical_there, physical_last, laid_there, laid_last, lines_there}
use Rattle.text.proofs.Laying.{whole_line, empty_line, cr_line, plain_line, Keeps, keeps}

-- ---- no LF stands in a kept line
record Kept (n : ℕ) (s : List ℕ) : Type 0 where
  bytes : ℕ
  is : Keeps n s bytes

begins_some : {G : Type 0} (n : ℕ) (s : List ℕ) → n ≤ length s → ((m : ℕ) → Begins n s m → G) → G
begins_some n s h f =
    on (ltb n (length s))
    (λ p.
    let l : n < length s = ltb-true n (length s) p in
    on (eqb n 0) (λ z. f 0 (empty_line s n l (eqb-true n 0 z)))
    (λ z. on (eqb (get_or s (n - 1) 0) 13)
    (λ q. f (n - 1) (cr_line s n l (eqb-false n 0 z) (eqb-true (get_or s (n - 1) 0) 13 q)))
    (λ q. f n (plain_line s n l (eqb-false n 0 z) (eqb-false (get_or s (n - 1) 0) 13 q)))))
    (λ p. f n (whole_line s n h (ltb-false n (length s) p)))

kept_some : (n : ℕ) (s : List ℕ) → n ≤ length s → Kept n s
kept_some n s h = begins_some n s h (λ m b. record { bytes = up_to 35 Outside (take m s); is = keeps s n m (up_to 35 Outside (take m s)) h b refl })

before_take : (c k : ℕ) (s : List ℕ) → k ≤ before c s → before c (take k s) ≡ length (take k s)
before_take c zero s h = refl
before_take c (suc k) [] h = refl
before_take c (suc k) (b ∷ s) h =
    on (eqb b c) (λ e. absurd (omega (arith, rw e at h)))
    (λ e. let l : suc k ≤ suc (before c s) = rw e at h in rw (e, before_take c k s (omega arith)))

before_append : (c : ℕ) (l f : List ℕ) → before c l ≡ length l → before c (l ++ (c ∷ f)) ≡ length l
before_append c [] f e = rw (eq-eqb c c refl)
before_append c (b ∷ l) f e =
    on (eqb b c) (λ p. absurd (omega (arith, rw p at e)))
    (λ p. let k : suc (before c l) ≡ suc (length l) = rw p at e in rw (p, before_append c l f (omega arith)))

-- a line, its LF and what follows, by its lines
lines_cons : (l f : List ℕ) → before 10 l ≡ length l → lines_of (l ++ (10 ∷ f)) ≡ l ∷ lines_of f
lines_cons l f e =
    let n : length (l ++ (10 ∷ f)) ≡ length l + suc (length f) = length-append l (10 ∷ f) in
    let b : length l ≡ before 10 (l ++ (10 ∷ f)) = sym (before_append 10 l f e) in
    let k : length (l ++ (10 ∷ [])) ≡ length l + 1 = length-append l (10 ∷ []) in
    lines_there (l ++ (10 ∷ f)) (length l) b (omega arith)
    ∙ rw (take_at l (10 ∷ f) (length l) refl) (ap (λ (r : List ℕ). l ∷ lines_of r) (ap (drop (length l + 1)) (sym (append_assoc l (10 ∷ []) f)) ∙ drop_at (l ++ (10 ∷ [])) f (length l + 1) k))

clean : (s : List ℕ) → before 10 (kept (first_line (before 10 s) s)) ≡ length (kept (first_line (before 10 s) s))
clean s =
    let k : Kept (before 10 s) s = kept_some (before 10 s) s (before_fits 10 s) in
    rw (← k.is.is) (before_take 10 k.bytes s k.is.fits)

first_there : (n : ℕ) (s : List ℕ) → n < length s
    → kept_lines (drop_cr (take n s) ∷ physical (drop (suc n) s)) ≡ kept (first_line n s) ∷ kept_lines (physical (drop (n + 1) s))
unfolding first_line
first_there n s h = rw (lt-ltb n (length s) h, add-one)

first_last : (n : ℕ) (s : List ℕ) → length s ≤ n → kept_lines (s ∷ []) ≡ kept (first_line n s) ∷ lines_of []
unfolding first_line lines_of
first_last n s h = rw (le-ltb n (length s) h)

-- the lines of the laid text are the kept lines
laid_lines : (k : ℕ) (s : List ℕ) → length s ≤ k → lines_of (laid s) ≡ kept_lines (physical s)
unfolding laid lines_of physical
laid_lines zero [] h = refl
laid_lines zero (b ∷ s) h = absurd (omega arith)
laid_lines (suc k) s h = go s h (laid_lines k)
  where
    go : (s : List ℕ) → length s ≤ suc k → ((r : List ℕ) → length r ≤ k → lines_of (laid r) ≡ kept_lines (physical r)) → lines_of (laid s) ≡ kept_lines (physical s)
    go [] h ih = refl
    go (b ∷ s) h ih =
        let n : ℕ = before 10 (b ∷ s) in
        let l : List ℕ = kept (first_line n (b ∷ s)) in
        on (ltb n (length (b ∷ s)))
        (λ p.
        let m : n < length (b ∷ s) = ltb-true n (length (b ∷ s)) p in
        let r : List ℕ = drop (n + 1) (b ∷ s) in
        ap lines_of (laid_there (b ∷ s) n refl m) ∙ lines_cons l (laid r) (clean (b ∷ s))
        ∙ ap (λ (ls : List (List ℕ)). l ∷ ls) (ih r (omega (arith, length-drop (n + 1) (b ∷ s))))
        ∙ sym (ap kept_lines (physical_there (b ∷ s) m) ∙ first_there n (b ∷ s) m))
        (λ p.
        let m : length (b ∷ s) ≤ n = ltb-false n (length (b ∷ s)) p in
        ap lines_of (laid_last (b ∷ s) n refl m (omega arith)) ∙ lines_cons l [] (clean (b ∷ s))
        ∙ sym (ap kept_lines (physical_last b s m) ∙ first_last n (b ∷ s) m))

pub checked_joined : (s : List ℕ) → join closed 1 (lines_of (laid s)) ≡ joined s
unfolding joined
checked_joined s = ap (join closed 1) (laid_lines (length s) s (omega arith))

-- ---- the ways out of `lines`
module _ (limits : Limits) (s room : List ℕ) where
  pub too_long : limits.text < length s → Reads limits s room room (Err (record { refused = TextTooLong; line = 0 }))
  unfolding meant.lines
  too_long h = record { says = rw (lt-ltb limits.text (length s) h); small = omega arith; left = rw (lt-ltb limits.text (length s) h) }

  module _ (h : length s ≤ limits.text) (v : Bool) (e : v ≡ valid s) where
    pub not_utf8 : v ≡ false → Reads limits s room room (Err (record { refused = NotUtf8; line = 0 }))
    unfolding meant.lines
    not_utf8 f = record { says = rw (le-ltb limits.text (length s) h, ← e, f); small = omega arith; left = rw (le-ltb limits.text (length s) h, ← e, f) }

    module _ (t : v ≡ true) (room' : List ℕ) (used : ℕ) (y : Lays s room room' used) where
      pub prefix_count : used ≡ length (take used room')
      prefix_count = sym (length-take-le used room' y.fits)

      prefix_is : take used room' ≡ laid s
      prefix_is = rw y.left (take_at (laid s) (drop (length (laid s)) room) used (sym y.used))

      read_is : meant.lines limits s ≡ joined s
      unfolding meant.lines
      read_is = rw (le-ltb limits.text (length s) h, ← e, t)

      left_is : room' ≡ pick (ltb limits.text (length s)) room (pick (valid s) (over (laid s) room) room)
      left_is = rw (le-ltb limits.text (length s) h, ← e, t) y.left

      bound : length (take used room') + 1 ≤ limits.text + 2
      bound = omega (arith, prefix_count, y.most)

      -- an answer says of the text what the check says of the laid text
      reads : (c : Result ℕ AtLine) (r : Result Laid AtLine) → Checks (take used room') 0 1 c → ((j : Answer (List Line)) → answer_of c ≡ counted j → answer_of r ≡ measured used j)
          → Small (limits.text + 2) r → Reads limits s room room' r
      reads c r k f z = record {
        says = f (joined s) (k.says ∙ ap (λ (x : List ℕ). counted (join closed 1 (lines_of x))) prefix_is ∙ ap counted (checked_joined s)) ∙ rw (y.used, read_is);
        small = z;
        left = left_is;
      }

      pub read_fine : (n : ℕ) → Checks (take used room') 0 1 (Ok n) → Reads limits s room room' (Ok (record { lines = n; used = used }))
      read_fine n k = reads (Ok n) (Ok (record { lines = n; used = used })) k fine (omega (arith, k.most, bound), omega (arith, y.most))
        where
          fine : (j : Answer (List Line)) → accepted n ≡ counted j → accepted (record { lines = n; used = used }) ≡ measured used j
          fine (accepted ls) i = let z : n ≡ length ls = cc in rw z
          fine (refused f a p) i = cc

      pub read_refused : (u : AtLine) → Checks (take used room') 0 1 (Err u) → Reads limits s room room' (Err u)
      read_refused u k = reads (Err u) (Err u) k fault (omega (arith, k.most, bound))
        where
          fault : (j : Answer (List Line)) → at_line (number u.refused) u.line ≡ counted j → at_line (number u.refused) u.line ≡ measured used j
          fault (accepted ls) i = cc
          fault (refused f a p) i = cc
