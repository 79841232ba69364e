-- The export of values: one law for each way out.
use Prim.Native.Nat.{ℕ, ◌≤◌, ◌<◌}
use mathlib.Core.Bool.{Bool, true, false}
use mathlib.Core.List.{List}
use mathlib.Core.Path.{◌≡◌, sym, ap, ◌∙◌}
use native.Mathlib.Omega.{arith}
use native.Mathlib.Nat.{zero-add}
use borrow.Author.Tests.{lt-ltb, le-ltb, ltb-false, eq-eqb, ne_eqb}
use lib.Dec.{eqb, ltb}
use lib.ListN.{length}
use Rattle.std.specs.Prelude.{Result, Ok, Err}
use Rattle.meaning.specs.Base.{zeros}
use Rattle.meaning.specs.Numbered.{number}
use Rattle.laws.specs.Cases.{on}
use Rattle.values.specs.declared.State.{State}
use Rattle.values.specs.declared.Stopped.{Stopped}
use Rattle.values.specs.Out.{cells, Ready, Filled}
use Rattle.values.proofs.Outs.{went, failed}
use Rattle.toml_lite.specs.Rooms.{suffice}
use Rattle.toml_lite.proofs.Reading.{suffices}
use Rattle.host.specs.declared.single_values.ValueRead.{ValueRead}
use Rattle.host.specs.Values.{size_fault, out_of, value_fault, Readout}
use Rattle.slices.proofs.Zeroing.{length_zeros}
use Rattle.preset.proofs.Lining.{over_stored}

-- what the sizes say where they are 01's
record Sizes (s store tree : List ℕ) : Type 0 where
  bytes : 32768 ≤ length store
  slots : 65536 ≤ length tree
  text : length s ≤ 32768

sizes : (s store tree : List ℕ) → size_fault s store tree ≡ 0 → Sizes s store tree
unfolding size_fault
sizes s store tree e =
    on (suffice (length store) (length tree))
    (λ p. on (ltb 32768 (length s)) (λ r. absurd (omega (arith, rw (p, r) at e)))
    (λ r. let k : (32768 ≤ length store) × (65536 ≤ length tree) = suffices (length store) (length tree) p in record { bytes = k.0; slots = k.1; text = ltb-false 32768 (length s) r }))
    (λ p. absurd (omega (arith, rw p at e)))

module _ (s store tree : List ℕ) (b : Bool) (e : b ≡ suffice (length store) (length tree)) where
  pub fault_long : b ≡ true → 32768 < length s → 1 ≡ size_fault s store tree
  unfolding size_fault
  fault_long t h = rw (← e, t, lt-ltb 32768 (length s) h)

  pub fault_none : b ≡ true → length s ≤ 32768 → 0 ≡ size_fault s store tree
  unfolding size_fault
  fault_none t h = rw (← e, t, le-ltb 32768 (length s) h)

  pub fault_rooms : b ≡ false → 17 ≡ size_fault s store tree
  unfolding size_fault
  fault_rooms f = rw (← e, f)

pub ready : (s z t : List ℕ) (n : ℕ) → n ≡ size_fault s z t → n ≡ 0 → Ready 2048 s z t (record { used = 0; made = 0 })
ready s z t n e h =
    let k : Sizes s z t = sizes s z t (sym e ∙ h) in
    record { room = omega (arith, k.bytes, k.text); low = omega (arith, k.text); slots = omega (arith, k.slots); few = omega arith; made = omega arith }

module _ (s store tree z t : List ℕ) (ez : z ≡ zeros (length store)) (et : t ≡ zeros (length tree)) (n : ℕ) (en : n ≡ size_fault s z t) where
  same_sizes : n ≡ size_fault s store tree
  unfolding size_fault
  same_sizes =
      let a : length z ≡ length store = ap length ez ∙ length_zeros (length store) in
      let b : length t ≡ length tree = ap length et ∙ length_zeros (length tree) in
      en ∙ rw (a, b)

  pub size_refused : (r : ValueRead) → (n ≡ 0 → ⊥) → r ≡ record { number = n; used = 0; made = 0 } → Readout s store tree z t r
  size_refused r h e =
      let k : value_fault s store tree ≡ n = rw (← same_sizes, ne_eqb n 0 h) in
      record { says = e ∙ rw (k, ne_eqb n 0 h); store_is = rw (k, ne_eqb n 0 h) ez; tree_is = rw (k, ne_eqb n 0 h) et }

  module _ (h : n ≡ 0) where
    fault_is : value_fault s store tree ≡ (out_of s).fault
    fault_is = rw (← same_sizes, eq-eqb n 0 h)

    module _ (z' t' : List ℕ) (r : Result State Stopped) (f : Filled 2048 s z t z' t' (record { used = 0; made = 0 }) (out_of s) r) where
      pub read_out : (e : State) → r ≡ Ok e → Readout s store tree z' t' (record { number = 0; used = e.used; made = e.made })
      read_out e q =
          let g = went (record { used = 0; made = 0 }) (out_of s) r f.says e q in
          let p : eqb (out_of s).fault 0 ≡ true = eq-eqb (out_of s).fault 0 g.calm in
          record {
            says = rw (fault_is, p, ← g.there, zero-add (length (out_of s).bytes), zero-add (length (out_of s).slots));
            store_is = rw (fault_is, p) (rw ez at f.store_is ∙ over_stored (out_of s).bytes (zeros (length store)));
            tree_is = rw (fault_is, p) (rw et at f.tree_is ∙ over_stored (cells (out_of s).slots) (zeros (length tree)));
          }

      module _ (y x : List ℕ) (ey : y ≡ zeros (length z')) (ex : x ≡ zeros (length t')) (lz : length z' ≡ length z) (lt : length t' ≡ length t) where
        pub fault_out : (e : Stopped) (n : ℕ) (v : ValueRead) → r ≡ Err e → n ≡ number e.refused → v ≡ record { number = n; used = 0; made = 0 } → Readout s store tree y x v
        fault_out e n v q k w =
            let a : y ≡ zeros (length store) = ey ∙ ap zeros (lz ∙ ap length ez ∙ length_zeros (length store)) in
            let b : x ≡ zeros (length tree) = ex ∙ ap zeros (lt ∙ ap length et ∙ length_zeros (length tree)) in
            let g = failed (record { used = 0; made = 0 }) (out_of s) r f.says e q in
            record { says = w ∙ rw (fault_is, g.fails, g.code, k); store_is = rw (fault_is, g.fails) a; tree_is = rw (fault_is, g.fails) b }
