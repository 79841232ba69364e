-- One value made; `true`, `false` and integers; what follows a `[`: one law for each way out.
use Prim.Native.Nat.{ℕ, ◌+◌, ◌*◌, ◌-◌, ◌≤◌, ◌<◌}
use mathlib.Core.Bool.{Bool, true, false}
use mathlib.Core.List.{List, [], ◌∷◌, append-nil}
use mathlib.Core.Path.{◌≡◌, refl, sym, ap, ◌∙◌}
use native.Mathlib.Omega.{arith}
use native.Mathlib.Nat.{add-zero}
use lib.Dec.{eqb}
use lib.ListN.{length, get_or}
use borrow.Author.Tests.{le-leb, lt-leb, eq-eqb, ne_eqb}
use Rattle.std.specs.Prelude.{Result, Ok, Err}
use Rattle.meaning.specs.declared.Refused.{Refused}
use Rattle.meaning.specs.declared.Refused.TheVariants.{UnendedArray, TooManyValues}
use Rattle.meaning.specs.Base.{ascii, same, final}
use Rattle.meaning.specs.Integers.{signed}
use Rattle.meaning.specs.declared.Signed.{Signed}
use Rattle.laws.specs.Stored.{stored}
use Rattle.scalar.specs.Ints.{int_of, int_read, int_wrong}
use Rattle.tree.specs.declared.Slot.{Slot}
use Rattle.tree.specs.Room.{cell}
use Rattle.values.specs.declared.State.{State}
use Rattle.values.specs.declared.Stopped.{Stopped}
use Rattle.values.specs.Out.{Made, Places}
use Rattle.values.specs.Fill.{valued, sign_kind, int_slot, makes, plain_out, open_out}
use Rattle.values.proofs.Outs.{stop, made_fault}

module _ (limit : ℕ) (tree : List ℕ) (st : State) (h : Places limit tree st) where
  pub make_full : (v : Slot) → limit ≤ st.made → Made limit tree tree st (makes limit st.made v) (stop TooManyValues st)
  unfolding makes
  make_full v l = rw (le-leb limit st.made l) (made_fault limit tree st TooManyValues h.made)

  pub make_put : (v : Slot) (tree' : List ℕ) → st.made < limit → tree' ≡ stored tree (32 * st.made) (cell v)
      → Made limit tree tree' st (makes limit st.made v) (Ok (record { used = st.used; made = st.made + 1 }))
  unfolding makes
  make_put v tree' l e =
      rw (lt-leb limit st.made l)
      (record { says = record { fault = refl; there = rw (add-zero st.used) }; none = refl; most = omega arith; tree_is = e ∙ ap (stored tree (32 * st.made)) (sym (append-nil (cell v))) })

  module _ (parent : ℕ) (s : List ℕ) where
    -- ---- `true`, `false` or an integer
    module _ (a : Bool) (ea : a ≡ same s (ascii "true")) where
      pub plain_true : (v : Slot) (tree' : List ℕ) (r : Result State Stopped) → a ≡ true → v ≡ valued parent 3 1 → Made limit tree tree' st (makes limit st.made v) r
          → Made limit tree tree' st (plain_out limit parent st.made s) r
      unfolding plain_out
      plain_true v tree' r y e k = rw (← ea, y, ← e) k

      module _ (n : a ≡ false) (b : Bool) (eb : b ≡ same s (ascii "false")) where
        pub plain_false : (v : Slot) (tree' : List ℕ) (r : Result State Stopped) → b ≡ true → v ≡ valued parent 3 0 → Made limit tree tree' st (makes limit st.made v) r
            → Made limit tree tree' st (plain_out limit parent st.made s) r
        unfolding plain_out
        plain_false v tree' r y e k = rw (← ea, n, ← eb, y, ← e) k

        module _ (m : b ≡ false) (i : Result Signed Refused) (ei : int_of i ≡ signed s) where
          pub plain_int : (x : Signed) (kind : ℕ) (v : Slot) (tree' : List ℕ) (r : Result State Stopped) → i ≡ Ok x → kind ≡ sign_kind x.neg → v ≡ valued parent kind x.mag
              → Made limit tree tree' st (makes limit st.made v) r → Made limit tree tree' st (plain_out limit parent st.made s) r
          unfolding plain_out
          plain_int x kind v tree' r q ek e k =
              let z : v ≡ int_slot parent x = e ∙ ap (λ (j : ℕ). valued parent j x.mag) ek in
              rw (← ea, n, ← eb, m, int_read i s ei x q, ← z) k

          pub plain_wrong : (w : Refused) → i ≡ Err w → Made limit tree tree st (plain_out limit parent st.made s) (stop w st)
          unfolding plain_out
          plain_wrong w q = rw (← ea, n, ← eb, m, int_wrong i s ei w q) (made_fault limit tree st w h.made)

    -- ---- what follows a `[`
    none_final : (t : List ℕ) → length t ≡ 0 → eqb (final t) 93 ≡ false
    none_final [] e = refl
    none_final (b ∷ t) e = absurd (omega arith)

    pub open_none : length s ≡ 0 → Made limit tree tree st (open_out limit parent st.made s) (stop UnendedArray st)
    unfolding open_out
    open_none e = rw (none_final s e) (made_fault limit tree st UnendedArray h.made)

    pub open_other : (get_or s (length s - 1) 0 ≡ 93 → ⊥) → Made limit tree tree st (open_out limit parent st.made s) (stop UnendedArray st)
    unfolding open_out
    open_other e = rw (ne_eqb (final s) 93 e) (made_fault limit tree st UnendedArray h.made)

    pub open_made : (v : Slot) (tree' : List ℕ) (r : Result State Stopped) → get_or s (length s - 1) 0 ≡ 93 → v ≡ valued parent 4 0
        → Made limit tree tree' st (makes limit st.made v) r → Made limit tree tree' st (open_out limit parent st.made s) r
    unfolding open_out
    open_made v tree' r e f k = rw (eq-eqb (final s) 93 e, ← f) k
