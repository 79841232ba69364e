-- One value: one law for each way out.
use Prim.Native.Nat.{ℕ, ◌-◌, ◌≤◌, ◌<◌}
use mathlib.Core.List.{List, [], ◌∷◌}
use mathlib.Core.Path.{◌≡◌, sym, ap, ◌∙◌}
use native.Mathlib.Omega.{arith}
use lib.ListN.{length, get_or, take, drop, length-drop}
use lib.Seq.{length-take-le}
use borrow.Author.Tests.{eq-eqb, ne_eqb}
use Rattle.std.specs.Prelude.{Result}
use Rattle.meaning.specs.Space.{trim}
use Rattle.laws.specs.Parts.{rest_of}
use Rattle.chars.specs.Trimmed.{Trimmed}
use Rattle.chars.specs.declared.Span.{Span}
use Rattle.values.specs.declared.State.{State}
use Rattle.values.specs.declared.Stopped.{Stopped}
use Rattle.values.specs.Out.{Filled, Made}
use Rattle.values.specs.Fill.{string_out, plain_out, one_out, brackets_out, value_out}
use Rattle.values.proofs.Outs.{Left, left_made, filled_of, wider}

pub none_first : (s : List ℕ) (n : ℕ) → length s < 1 → 0 < n → get_or s 0 0 ≡ n → ⊥
none_first [] n l k e = omega arith
none_first (b ∷ s) n l k e = omega arith

module _ (limit depth parent : ℕ) (s store tree : List ℕ) (st : State) (t : Span) (h : Trimmed s t) where
  abbrev part : List ℕ
  part = take (t.end - t.from) (drop t.from s)

  part_size : length part ≡ t.end - t.from
  part_size = length-take-le (t.end - t.from) (drop t.from s) (omega (arith, length-drop t.from s, h.high))

  first_is : get_or part 0 0 ≡ get_or (trim s) 0 0
  first_is = ap (λ (l : List ℕ). get_or l 0 0) h.is

  -- what follows the first byte
  abbrev inner : List ℕ
  inner = take (length part - 1) (drop 1 part)

  inner_is : inner ≡ drop 1 (trim s)
  inner_is = rest_of part 1 ∙ ap (drop 1) h.is

  inner_size : length inner ≤ length s
  inner_size = omega (arith, ap length (rest_of part 1), length-drop 1 part, part_size, h.high)

  module _ (store' tree' : List ℕ) (r : Result State Stopped) where
    pub value_string : get_or part 0 0 ≡ 34 → Filled limit inner store tree store' tree' st (string_out limit parent st.used st.made inner) r
        → Filled limit s store tree store' tree' st (value_out limit depth parent st.used st.made s) r
    unfolding value_out one_out
    value_string q k =
        let z : string_out limit parent st.used st.made inner ≡ string_out limit parent st.used st.made (drop 1 (trim s)) = ap (string_out limit parent st.used st.made) inner_is in
        rw (eq-eqb (get_or (trim s) 0 0) 34 (sym first_is ∙ q), ← z) (wider k inner_size)

    pub value_array : get_or part 0 0 ≡ 91 → Filled limit inner store tree store' tree' st (brackets_out limit depth parent st.used st.made inner) r
        → Filled limit s store tree store' tree' st (value_out limit depth parent st.used st.made s) r
    unfolding value_out one_out
    value_array q k =
        let z : brackets_out limit depth parent st.used st.made inner ≡ brackets_out limit depth parent st.used st.made (drop 1 (trim s)) = ap (brackets_out limit depth parent st.used st.made) inner_is in
        let n : get_or (trim s) 0 0 ≡ 34 → ⊥ = λ x. omega (arith, first_is) in
        rw (ne_eqb (get_or (trim s) 0 0) 34 n, eq-eqb (get_or (trim s) 0 0) 91 (sym first_is ∙ q), ← z) (wider k inner_size)

  pub value_plain : (get_or part 0 0 ≡ 34 → ⊥) → (get_or part 0 0 ≡ 91 → ⊥) → (tree' : List ℕ) (r : Result State Stopped) → Made limit tree tree' st (plain_out limit parent st.made part) r
      → Filled limit s store tree store tree' st (value_out limit depth parent st.used st.made s) r
  unfolding value_out one_out
  value_plain n m tree' r k =
      let g : Made limit tree tree' st (plain_out limit parent st.made (trim s)) r = rw h.is at k in
      let f : Left limit (length s) store tree store tree' st (plain_out limit parent st.made (trim s)) = left_made g in
      rw (ne_eqb (get_or (trim s) 0 0) 34 (λ x. n (first_is ∙ x)), ne_eqb (get_or (trim s) 0 0) 91 (λ x. m (first_is ∙ x))) (filled_of f (omega arith) g.says)
