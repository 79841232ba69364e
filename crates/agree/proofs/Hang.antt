-- A value is hung up under a table: the rooms show the tree with the value set at the key.
use Rattle.std.specs.Prelude.{ℕ, ◌+◌, ◌≤◌, ◌<◌, ◌≡◌, eqb, length, set}
use mathlib.Core.List.{List, [], ◌∷◌}
use Rattle.std.proofs.Math.Path.{sym}
use Rattle.std.proofs.Common.{ap, subst, ◌∙◌, arith}
use Rattle.std.proofs.Math.ListN.{get_or, length-set}
use Rattle.std.proofs.Math.Seq.{get_or-set_same, get_or-set_other}
use borrow.Author.Tests.{eqb-true, eqb-false}
use Rattle.meaning.specs.Base.{part}
use Rattle.meaning.specs.Tree.{Value, Table, table}
use Rattle.laws.specs.Cases.{on}
use Rattle.tree.specs.declared.Slot.{Slot}
use Rattle.tree.specs.Room.{hung}
use Rattle.values.specs.Grow.{Seg, void}
use Rattle.agree.specs.Key.{Key, name}
use Rattle.agree.specs.Paths.{shorter}
use Rattle.agree.specs.Log.{kind_at, Hung, walk_else}
use Rattle.agree.specs.Finds.{set_at}
use Rattle.agree.proofs.Meets.{shown_hung}
use Rattle.agree.specs.Slots.{log_of, hung_up}
use Rattle.agree.specs.Steps.{Agree, to, Calm, Sealed}
use Rattle.agree.proofs.Steps.{to_low, meets_some, table_at_lem, sealed_off}
use Rattle.agree.specs.Block.{Laid, Good}
use Rattle.agree.proofs.Block.{laid_long, laid_move, good_under}
use Rattle.agree.specs.Down.{Stand}
use Rattle.agree.proofs.Down.{takes_name}

module _ (bytes : List ℕ) (vs : List Slot) (x : Value) (g : List Key) (t : Table) (p : ℕ) (a : Stand bytes vs x g t p) (s : Seg) (k : List ℕ)
    (spelt : part s.at (s.at + s.len) bytes ≡ k) (lies : s.at + s.len ≤ length bytes) (n e : ℕ) (v : Value)
    (laid : Laid bytes (λ m. get_or vs m void) n v e) (high : e ≤ length vs) (free : (get_or vs n void).parent ≡ 0)
    (calm : Calm bytes vs n g) (shut : Sealed n e vs) where
  some_slots : n < e
  some_slots = laid_long bytes (λ m. get_or vs m void) v n e laid

  there : 1 ≤ p
  there = omega (arith, (meets_some bytes vs x a.agree g (table t) a.found).0, a.leads)

  away : n + 2 ≤ p → e + 2 ≤ p
  away l = omega (arith, sealed_off bytes vs n e shut g (omega (arith, a.leads)), a.leads)

  one : Slot
  one = hung p s.at s.len (get_or vs n void)

  up : List Slot
  up = set vs n one

  hangs : Hung bytes (log_of vs) (log_of up) n p (name k)
  unfolding up one
  hangs =
      hung_up bytes vs n p s k (omega (arith, some_slots)) free there (λ d. omega (arith, away (omega arith), some_slots))
      (subst (λ (z : ℕ). kind_at (log_of vs) z ≡ 5) a.leads (table_at_lem bytes vs x a.agree g t a.found)) spelt lies
      (λ m l d. omega (arith, there, a.leads, calm m (omega arith) [] (d ∙ sym a.leads)))

  others : (m : ℕ) → (m ≡ n → ⊥) → get_or up m void ≡ get_or vs m void
  unfolding up
  others m d = get_or-set_other vs n m one void d

  at_n : get_or up n void ≡ one
  unfolding up
  at_n = get_or-set_same vs n one void (omega (arith, some_slots))

  long : length up ≡ length vs
  unfolding up
  long = length-set vs n one

  good : Good bytes (log_of up) n v
  unfolding one
  good =
      record {
        end = e;
        laid = laid_move bytes bytes (λ m. get_or vs m void) (λ m. get_or up m void) (λ w u h. h) v n e (λ m l d. others m (λ w. omega arith))
            (ap (λ (w : Slot). w.kind) at_n) (ap (λ (w : Slot). w.«data») at_n) laid;
        early = λ m l. on (eqb m n)
            (λ c. let d : m ≡ n = eqb-true m n c in rw (d, at_n) away)
            (λ c. let d : m ≡ n → ⊥ = eqb-false m n c in rw (others m d) (λ o. absurd (omega (arith, shut.before m (omega arith)))));
        outer = λ m l. rw (others m (λ d. omega (arith, some_slots))) (shut.after m l);
        high = rw long high;
      }

  pub agree_hung : Agree bytes (set vs n (hung p s.at s.len (get_or vs n void))) (set_at x (name k ∷ g) v)
  unfolding up one
  agree_hung =
      record {
        shown = shown_hung bytes (log_of vs) (log_of up) n p (name k) g x v a.agree.shown hangs a.leads (takes_name x g t k a.found) (good_under bytes (log_of up) n v good);
        within = λ m. on (eqb m n)
            (λ c. let d : m ≡ n = eqb-true m n c in rw (d, at_n) lies)
            (λ c. rw (others m (eqb-false m n c)) (a.agree.within m));
        low = λ m. rw long (on (eqb m n)
            (λ c. let d : m ≡ n = eqb-true m n c in rw (d, at_n) (omega (arith, to_low bytes vs g, a.leads)))
            (λ c. rw (others m (eqb-false m n c)) (a.agree.low m)));
      }

  pub kept_hung : (q : List Key) → length q ≤ length g → to bytes (set vs n (hung p s.at s.len (get_or vs n void))) q ≡ to bytes vs q
  unfolding up one
  kept_hung q l = walk_else bytes (log_of vs) (log_of up) n p (name k) hangs g a.leads q (shorter (name k ∷ g) q (omega arith))

  pub length_hung : length (set vs n (hung p s.at s.len (get_or vs n void))) ≡ length vs
  length_hung = length-set vs n (hung p s.at s.len (get_or vs n void))
