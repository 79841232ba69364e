-- A longer store, and values made that are not hung up yet, change nothing that is seen.
use Rattle.std.specs.Prelude.{ℕ, zero, suc, ◌+◌, ◌-◌, ◌≤◌, ◌<◌, false, ◌≡◌, eqb, ltb, take, drop}
use mathlib.Core.List.{List, [], ◌∷◌, ◌++◌}
use Rattle.std.proofs.Math.Option.{Option, none, some}
use Rattle.std.proofs.Math.Path.{refl, ap, subst}
use Rattle.std.proofs.Common.{sym, ◌∙◌, length-drop}
use native.Mathlib.Omega.{arith}
use Rattle.std.proofs.Math.ListN.{length, get_or, length-append, get_or-append}
use Rattle.std.proofs.lemmas.List.{take-append-le, drop-append-le}
use Rattle.std.proofs.Math.Seq.{get_or-append-add}
use borrow.Author.Tests.{eqb-true, eqb-false, le-leb, ltb-true, ltb-false}
use Rattle.meaning.specs.Base.{part}
use Rattle.meaning.specs.Tree.{Value, str, int, boolean, array, table}
use Rattle.laws.specs.Cases.{on}
use Rattle.tree.specs.declared.Slot.{Slot}
use Rattle.tree.specs.Room.{keyed}
use Rattle.values.specs.Grow.{void, mine_s}
use Rattle.agree.specs.Key.{Key, name, index}
use Rattle.agree.specs.Log.{Log, top, kind_at, count, test, walk, top_same, top_more, test_kind, test_parent}
use Rattle.agree.specs.Finds.{find}
use Rattle.agree.specs.Meets.{Shows, Meets, slot_of}
use Rattle.agree.proofs.Meets.{meets_slot}
use Rattle.agree.specs.Slots.{log_of, parent_beyond}
use Rattle.agree.specs.Steps.{Agree, to, Calm, Sealed}
use Rattle.agree.proofs.Steps.{to_low}
use Rattle.agree.specs.Block.{Laid}
use Rattle.agree.proofs.Block.{laid_long, laid_inner}
use Rattle.agree.specs.Store.{Lain}

-- ---- a longer store

module _ (bytes more : List ℕ) where
  pub part_more : (f n : ℕ) → f + n ≤ length bytes → part f (f + n) (bytes ++ more) ≡ part f (f + n) bytes
  part_more f n l =
      let k : f + n - f ≤ length (drop f bytes) = omega (arith, length-drop f bytes) in
      ap (take (f + n - f)) (drop-append-le f bytes more (omega arith)) ∙ take-append-le (f + n - f) (drop f bytes) more k

  longer : length bytes ≤ length (bytes ++ more)
  longer = omega (arith, length-append bytes more)

  keyed_more : (v : Slot) (k : List ℕ) → v.key + v.len ≤ length bytes → keyed (bytes ++ more) v k ≡ keyed bytes v k
  unfolding keyed
  keyed_more v k l =
      rw (le-leb (v.key + v.len) (length bytes) l, le-leb (v.key + v.len) (length (bytes ++ more)) (omega (arith, longer)), part_more v.key v.len l)

  pub mine_more : (v : Slot) (p : ℕ) (k : List ℕ) → v.key + v.len ≤ length bytes → mine_s (bytes ++ more) v p k ≡ mine_s bytes v p k
  unfolding mine_s
  mine_more v p k l = rw (keyed_more v k l)

  pub shows_more : (v : Slot) (u : Value) → Shows bytes v u → Shows (bytes ++ more) v u
  shows_more v (str s) h =
      (h.0, record { from = h.1.from; is = h.1.is; fits = omega (arith, h.1.fits, longer); spelt = part_more h.1.from (length s) h.1.fits ∙ h.1.spelt })
  shows_more v (int i) h = h
  shows_more v (boolean b) h = h
  shows_more v (array is) h = h
  shows_more v (table t) h = h

  meets_more : (a : Log) (p : ℕ) (o : Option Value) → Meets bytes a p o → Meets (bytes ++ more) a p o
  meets_more a p none h = h
  meets_more a p (some v) h = (h.0, shows_more (slot_of a p) v h.1)

  module _ (a : Log) (within : (n : ℕ) → (a.at n).key + (a.at n).len ≤ length bytes) where
    tests_more : (p : ℕ) (j : Key) (n : ℕ) → test (bytes ++ more) a p j n ≡ test bytes a p j n
    tests_more p (name k) n = rw (mine_more (a.at n) p k (within n))
    tests_more p (index i) n = refl

    walk_more : (p : ℕ) (q : List Key) → walk (bytes ++ more) a p q ≡ walk bytes a p q
    walk_more p [] = refl
    walk_more p (j ∷ q) = rw (walk_more p q) (top_same (test (bytes ++ more) a (walk bytes a p q) j) (test bytes a (walk bytes a p q) j) a.size (tests_more (walk bytes a p q) j))

  pub to_bytes : (vs : List Slot) (x : Value) → Agree bytes vs x → (q : List Key) → to (bytes ++ more) vs q ≡ to bytes vs q
  to_bytes vs x a q = walk_more (log_of vs) a.within 1 q

  pub agree_bytes : (vs : List Slot) (x : Value) → Agree bytes vs x → Agree (bytes ++ more) vs x
  agree_bytes vs x a =
      record {
        shown = λ q. subst (λ (p : ℕ). Meets (bytes ++ more) (log_of vs) p (find (some x) q)) (sym (to_bytes vs x a q)) (meets_more (log_of vs) (to bytes vs q) (find (some x) q) (a.shown q));
        within = λ n. omega (arith, a.within n, longer);
        low = a.low;
      }

module _ (bytes : List ℕ) (vs ws : List Slot) (x v : Value) (a : Agree bytes vs x) (h : Lain bytes (length vs) ws v) where
  n : ℕ
  n = length vs

  e : ℕ
  e = length vs + length ws

  all : List Slot
  all = vs ++ ws

  size : length all ≡ e
  unfolding all e
  size = length-append vs ws

  old : (m : ℕ) → m < length vs → get_or all m void ≡ get_or vs m void
  unfolding all
  old m l = get_or-append vs ws void m l

  new : (i : ℕ) → get_or all (length vs + i) void ≡ get_or ws i void
  unfolding all
  new i = get_or-append-add vs ws i void

  pub laid_all : Laid bytes (λ m. get_or (vs ++ ws) m void) (length vs) v (length vs + length ws)
  unfolding all
  laid_all = h.laid (λ m. get_or (vs ++ ws) m void) (λ i l. new i)

  pub some_all : length vs < length vs + length ws
  some_all = laid_long bytes (λ m. get_or (vs ++ ws) m void) v (length vs) (length vs + length ws) laid_all

  pub free_all : (get_or (vs ++ ws) (length vs) void).parent ≡ 0
  unfolding all
  free_all =
      let z : length vs + 0 ≡ length vs = omega arith in
      ap (λ (m : ℕ). (get_or (vs ++ ws) m void).parent) (sym z) ∙ ap (λ (w : Slot). w.parent) (new 0) ∙ h.free

  -- what is new hangs nowhere, or under what is new
  inside : (m : ℕ) → length vs ≤ m → 1 ≤ (get_or all m void).parent → (length vs + 2 ≤ (get_or all m void).parent) × ((get_or all m void).parent < length vs + length ws + 2)
  unfolding all e
  inside m l o =
      on (eqb m (length vs))
      (λ c. let d : m ≡ length vs = eqb-true m (length vs) c in absurd (omega (arith, ap (λ (z : ℕ). (get_or (vs ++ ws) z void).parent) d, free_all)))
      (λ c. on (ltb m (length vs + length ws))
      (λ t. laid_inner bytes (λ m. get_or (vs ++ ws) m void) v (length vs) (length vs + length ws) laid_all m (omega (arith, eqb-false m (length vs) c)) (ltb-true m (length vs + length ws) t))
      (λ t. absurd (omega (arith, parent_beyond (vs ++ ws) m (omega (arith, size, ltb-false m (length vs + length ws) t))))))

  kind_old : (p : ℕ) → p < length vs + 2 → kind_at (log_of all) p ≡ kind_at (log_of vs) p
  kind_old zero l = refl
  kind_old (suc zero) l = refl
  kind_old (suc (suc m)) l = ap (λ (w : Slot). w.kind) (old m (omega arith))

  slot_old : (p : ℕ) → p < length vs + 2 → slot_of (log_of all) p ≡ slot_of (log_of vs) p
  slot_old zero l = refl
  slot_old (suc zero) l = refl
  slot_old (suc (suc m)) l = old m (omega arith)

  count_old : (m p : ℕ) → m ≤ length vs → count (log_of all) m p ≡ count (log_of vs) m p
  count_old zero p l = refl
  count_old (suc m) p l = rw (old m (omega arith), count_old m p (omega arith))

  test_low : (p : ℕ) (j : Key) (m : ℕ) → p < length vs + 2 → m < length vs → test bytes (log_of all) p j m ≡ test bytes (log_of vs) p j m
  test_low p (name k) m l c = rw (kind_old p l, old m c)
  test_low p (index i) m l c = rw (kind_old p l, old m c, count_old m p (omega arith))

  test_beyond : (p : ℕ) (j : Key) (m : ℕ) → length vs ≤ m → test bytes (log_of vs) p j m ≡ false
  test_beyond p j m c =
      on (test bytes (log_of vs) p j m)
      (λ t. absurd (omega (arith, test_kind bytes (log_of vs) p j m t, test_parent bytes (log_of vs) p j m t, parent_beyond vs m c))) (λ t. t)

  test_new : (p : ℕ) (j : Key) (m : ℕ) → p < length vs + 2 → length vs ≤ m → test bytes (log_of all) p j m ≡ false
  test_new p j m l c =
      on (test bytes (log_of all) p j m)
      (λ t. let u : (get_or all m void).parent ≡ p = test_parent bytes (log_of all) p j m t in
      let i = inside m c (omega (arith, test_kind bytes (log_of all) p j m t)) in
      absurd (omega (arith, i.0))) (λ t. t)

  tests : (p : ℕ) → p < length vs + 2 → (j : Key) (m : ℕ) → test bytes (log_of all) p j m ≡ test bytes (log_of vs) p j m
  tests p l j m =
      on (ltb m (length vs)) (λ t. test_low p j m l (ltb-true m (length vs) t))
      (λ t. test_new p j m l (ltb-false m (length vs) t) ∙ sym (test_beyond p j m (ltb-false m (length vs) t)))

  pub to_all : (q : List Key) → to bytes (vs ++ ws) q ≡ to bytes vs q
  unfolding all e
  to_all [] = refl
  to_all (j ∷ q) =
      rw (to_all q)
      (top_same (test bytes (log_of all) (to bytes vs q) j) (test bytes (log_of vs) (to bytes vs q) j) (length all) (tests (to bytes vs q) (to_low bytes vs q) j)
      ∙ ap (top (test bytes (log_of vs) (to bytes vs q) j)) size
      ∙ top_more (test bytes (log_of vs) (to bytes vs q) j) (length vs) (length ws) (test_beyond (to bytes vs q) j))

  pub agree_all : Agree bytes (vs ++ ws) x
  unfolding all e
  agree_all =
      record {
        shown = λ q. subst (λ (p : ℕ). Meets bytes (log_of all) p (find (some x) q)) (sym (to_all q))
            (meets_slot bytes (log_of vs) (log_of all) (to bytes vs q) (find (some x) q) (slot_old (to bytes vs q) (to_low bytes vs q)) (a.shown q));
        within = λ m. on (ltb m (length vs)) (λ t. rw (old m (ltb-true m (length vs) t)) (a.within m))
            (λ t. let z : m ≡ length vs + (m - length vs) = omega (arith, ltb-false m (length vs) t) in
            rw (z, new (m - length vs)) (omega (arith, h.keyless (m - length vs))));
        low = λ m. on (ltb m (length vs)) (λ t. rw (old m (ltb-true m (length vs) t)) (omega (arith, a.low m, size)))
            (λ t. on (eqb (get_or all m void).parent 0) (λ c. omega (arith, eqb-true (get_or all m void).parent 0 c))
            (λ c. let i = inside m (ltb-false m (length vs) t) (omega (arith, eqb-false (get_or all m void).parent 0 c)) in omega (arith, i.1, size)));
      }

  pub calm_all : (g : List Key) → Calm bytes (vs ++ ws) (length vs) g
  unfolding all
  calm_all g m l r d =
      on (eqb (to bytes all (r ++ g)) 0) (λ c. eqb-true (to bytes all (r ++ g)) 0 c)
      (λ c. let i = inside m l (omega (arith, eqb-false (to bytes all (r ++ g)) 0 c)) in
      absurd (omega (arith, i.0, to_all (r ++ g), to_low bytes vs (r ++ g))))

  pub sealed_all : Sealed (length vs) (length vs + length ws) (vs ++ ws)
  unfolding all
  sealed_all =
      record {
        order = omega arith;
        before = λ m l. rw (old m l) (a.low m);
        inner = λ m l c o. inside m l o;
        after = λ m l o. absurd (omega (arith, parent_beyond (vs ++ ws) m (omega (arith, length-append vs ws))));
      }
