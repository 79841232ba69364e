-- Along a path from a table on: the rooms and the tree of 01 walk or make the same tables.
use Rattle.std.specs.Prelude.{ℕ, suc, ◌+◌, ◌≤◌, true, false, ◌≡◌, eqb, leb, get_or, Option as Maybe, Some, None}
use mathlib.Core.List.{List, [], ◌∷◌, ◌++◌, append-nil, append_assoc}
use Rattle.std.proofs.Math.Option.{Option, none, some}
use Rattle.std.proofs.Math.Path.{refl, sym, ap}
use Rattle.std.proofs.Common.{subst, ◌∙◌, arith, eqb-true, le-leb}
use Rattle.std.proofs.Math.ListN.{length}
use Rattle.std.proofs.lemmas.Bool.{eqb-false}
use Rattle.meaning.specs.Base.{part}
use Rattle.meaning.specs.Refusal.{numbered}
use Rattle.meaning.specs.Reading.{Grown, grown, stuck, grow_map, make}
use Rattle.meaning.specs.Tree.{Value, Table, str, int, boolean, array, table, empty, read_as, as_table, lookup, with_table, Grow, along_path, table_or_new}
use Rattle.laws.specs.Cases.{on}
use Rattle.laws.specs.Never.{same_refl}
use Rattle.tree.specs.declared.Slot.{Slot}
use Rattle.tree.specs.Room.{keyed}
use Rattle.values.specs.Grow.{Seg, void, look_s, keyed_slot, enter_s, enter_by, down_s, make_s, Grown as GrownS, grown as grownS, stuck as stuckS, onward}
use Rattle.agree.specs.Key.{Key, name}
use Rattle.agree.specs.Log.{kind_at, walk}
use Rattle.agree.specs.Finds.{get, find, put, set_at, Takes, at, set_set}
use Rattle.agree.specs.Meets.{Shows, Meets, slot_of}
use Rattle.agree.proofs.Meets.{bare_table}
use Rattle.agree.specs.Slots.{log_of, Fit, length_more, look_is, place_of}
use Rattle.agree.specs.Steps.{to, Calm}
use Rattle.agree.proofs.Steps.{table_at_lem, agree_more, leads_more, kept_more, calm_more, sealed_more}
use Rattle.agree.specs.Down.{Comes, Key-found, Spelling, Stand, graft}

pub graft_hang : (x : Value) (g : List Key) (t : Table) (k : List ℕ) (r : Grown Table) → find (some x) g ≡ some (table t)
    → graft x g (grow_map (with_table t k) r) ≡ graft x (name k ∷ g) r
graft_hang x g t k (grown w m) e = ap (λ (o : Option Value). grown (set_at x g (put o (name k) (table w))) m) (sym e)
graft_hang x g t k (stuck f) e = refl

pub takes_name : (x : Value) (g : List Key) (t : Table) (k : List ℕ) → find (some x) g ≡ some (table t) → Takes (find (some x) g) (name k)
takes_name x g t k e = rw e tt

pub graft_again : (x : Value) (g : List Key) (k : Key) (u : Value) (r : Grown Table) → Takes (find (some x) g) k
    → graft (set_at x (k ∷ g) u) (k ∷ g) r ≡ graft x (k ∷ g) r
graft_again x g k u (grown w m) h = ap (λ (y : Value). grown y m) (set_set (k ∷ g) x u (table w) h)
graft_again x g k u (stuck f) h = refl

pub keyed_slot_lem : (bytes : List ℕ) (kind p : ℕ) (s : Seg) (k : List ℕ) → part s.at (s.at + s.len) bytes ≡ k → s.at + s.len ≤ length bytes
    → keyed bytes (keyed_slot kind p s) k ≡ true
unfolding keyed
keyed_slot_lem bytes kind p s k e l = rw (le-leb (s.at + s.len) (length bytes) l, e) (same_refl k)

module _ (limit : ℕ) (bytes : List ℕ) (vs : List Slot) (x : Value) (g : List Key) (t : Table) (p : ℕ) (a : Stand bytes vs x g t p) (s : Seg) (k : List ℕ)
    (spelt : part s.at (s.at + s.len) bytes ≡ k) (lies : s.at + s.len ≤ length bytes) (ks : List (List ℕ)) where
  -- the table is there
  module _ (w : Table) (e : lookup t k ≡ some (table w)) where
    old_step : (f : Table → Grow Table) → along_path (table_or_new limit) f (k ∷ ks) t (length vs) ≡ grow_map (with_table t k) (along_path (table_or_new limit) f ks w (length vs))
    unfolding table_or_new
    old_step f = rw e

    shift_calm : (n : ℕ) → Calm bytes vs n g → Calm bytes vs n (name k ∷ g)
    shift_calm n c m l r d =
        let z : r ++ (name k ∷ g) ≡ (r ++ (name k ∷ [])) ++ g = sym (append_assoc r (name k ∷ []) g) in
        ap (to bytes vs) z ∙ c m l (r ++ (name k ∷ [])) (d ∙ ap (to bytes vs) z)

    old_comes : (r : GrownS) → Comes limit bytes vs x (name k ∷ g) w ks r → Comes limit bytes vs x g t (k ∷ ks) r
    old_comes (grownS vs' p') c =
        record {
          tree = c.tree;
          tab = c.tab;
          stand = c.stand;
          is = λ f. ap (graft x g) (old_step f) ∙ graft_hang x g t k (along_path (table_or_new limit) f ks w (length vs)) a.found ∙ c.is f;
          news = c.news;
          longer = c.longer;
          kept = λ q l. c.kept q (omega arith);
          calm = λ n h. c.calm n (shift_calm n h);
          closed = c.closed;
        }
    old_comes (stuckS n) c = (c.0, λ f. old_step f ∙ ap (grow_map (with_table t k)) (c.1 f))

  -- it is made
  module _ (e : (m : ℕ) → table_or_new limit (lookup t k) m ≡ make limit empty m) where
    slot : Slot
    slot = keyed_slot 5 p s

    made : List Slot
    made = vs ++ (slot ∷ [])

    tree : Value
    tree = set_at x (name k ∷ g) (table empty)

    full_stuck : leb limit (length vs) ≡ true → (f : Table → Grow Table) → along_path (table_or_new limit) f (k ∷ ks) t (length vs) ≡ stuck (numbered 16)
    unfolding make
    full_stuck l f = rw (e (length vs), l)

    new_step : leb limit (length vs) ≡ false → (f : Table → Grow Table)
        → along_path (table_or_new limit) f (k ∷ ks) t (length vs) ≡ grow_map (with_table t k) (along_path (table_or_new limit) f ks empty (length vs + 1))
    unfolding make
    new_step l f = rw (e (length vs), l)

    slot_under : slot.parent ≡ to bytes vs g
    unfolding slot
    slot_under = sym a.leads

    fits : Fit bytes vs slot (to bytes vs g) (name k)
    unfolding slot
    fits = (table_at_lem bytes vs x a.agree g t a.found, keyed_slot_lem bytes 5 p s k spelt lies)

    takes : Takes (find (some x) g) (name k)
    takes = takes_name x g t k a.found

    made_stand : Stand bytes made tree (name k ∷ g) empty (length vs + 2)
    unfolding made tree slot
    made_stand =
        record {
          agree = agree_more bytes vs x a.agree g (name k) slot (table empty) slot_under fits takes bare_table refl lies;
          found = at (name k ∷ g) x (table empty) takes;
          leads = leads_more bytes vs x a.agree g (name k) slot (table empty) slot_under fits takes bare_table refl lies [];
        }

    new_comes : leb limit (length vs) ≡ false → (r : GrownS) → Comes limit bytes made tree (name k ∷ g) empty ks r → Comes limit bytes vs x g t (k ∷ ks) r
    unfolding made tree slot
    new_comes l (grownS vs' p') c =
        let n : length vs + 1 ≡ length made = sym (length_more vs slot) in
        record {
          tree = c.tree;
          tab = c.tab;
          stand = c.stand;
          is = λ f. ap (graft x g) (new_step l f) ∙ graft_hang x g t k (along_path (table_or_new limit) f ks empty (length vs + 1)) a.found
              ∙ ap (λ (m : ℕ). graft x (name k ∷ g) (along_path (table_or_new limit) f ks empty m)) n
              ∙ sym (graft_again x g (name k) (table empty) (along_path (table_or_new limit) f ks empty (length made)) takes) ∙ c.is f;
          news = slot ∷ c.news;
          longer = c.longer ∙ append_assoc vs (slot ∷ []) c.news;
          kept = λ q h. c.kept q (omega arith)
              ∙ kept_more bytes vs x a.agree g (name k) slot (table empty) slot_under fits takes bare_table refl lies q h;
          calm = λ n h. c.calm n (calm_more bytes vs x a.agree g (name k) slot (table empty) slot_under fits takes bare_table refl lies n);
          closed = λ n e o h. c.closed n e (omega (arith, length_more vs slot))
              (sealed_more bytes vs x a.agree g (name k) slot (table empty) slot_under fits takes bare_table refl lies n e o h);
        }
    new_comes l (stuckS n) c =
        let i : length vs + 1 ≡ length made = sym (length_more vs slot) in
        (c.0, λ f. new_step l f ∙ ap (λ (m : ℕ). grow_map (with_table t k) (along_path (table_or_new limit) f ks empty m)) i ∙ ap (grow_map (with_table t k)) (c.1 f))

    -- within the limit or not
    make_comes : (next : List Slot → ℕ → GrownS) → (Stand bytes made tree (name k ∷ g) empty (length vs + 2) → Comes limit bytes made tree (name k ∷ g) empty ks (next made (length vs + 2)))
        → Comes limit bytes vs x g t (k ∷ ks) (onward (make_s limit vs (keyed_slot 5 p s)) next)
    unfolding make_s made slot
    make_comes next h =
        on (leb limit (length vs))
        (λ l. rw l (refl, full_stuck l))
        (λ l. rw l (new_comes l (next made (length vs + 2)) (h made_stand)))

-- ---- what stands at a key

pub kind_table : (bytes : List ℕ) (w : Slot) (v : Value) → Shows bytes w v → w.kind ≡ 5 → (u : Table) × (v ≡ table u)
kind_table bytes w (str s) h e = absurd (omega (arith, h.0))
kind_table bytes w (int i) (true, h, j) e = absurd (omega (arith, h))
kind_table bytes w (int i) (false, h, j) e = absurd (omega (arith, h))
kind_table bytes w (boolean b) h e = absurd (omega (arith, h.0))
kind_table bytes w (array is) h e = absurd (omega (arith, h))
kind_table bytes w (table u) h e = (u, refl)

pub kind_other : (bytes : List ℕ) (w : Slot) (v : Value) → Shows bytes w v → (w.kind ≡ 5 → ⊥) → as_table v ≡ none
kind_other bytes w (str s) h d = refl
kind_other bytes w (int i) h d = refl
kind_other bytes w (boolean b) h d = refl
kind_other bytes w (array is) h d = refl
kind_other bytes w (table u) h d = absurd (d h)

enter_none : (limit : ℕ) (o : Option Value) → read_as as_table o ≡ none → (m : ℕ) → table_or_new limit o m ≡ make limit empty m
unfolding table_or_new
enter_none limit o e m = rw e

pub key_found : (bytes : List ℕ) (vs : List Slot) (q n : ℕ) (o : Option Value) → Meets bytes (log_of vs) q o → n + 2 ≡ q → Key-found bytes vs n o
key_found bytes vs q n none h e = absurd (omega (arith, h))
key_found bytes vs q n (some v) h e =
    let d : q ≡ suc (suc n) = omega arith in
    record { it = v; is = refl; shows = subst (λ (z : ℕ). Shows bytes (slot_of (log_of vs) z) v) d h.1 }

pub key_missing : (bytes : List ℕ) (vs : List Slot) (q : ℕ) (o : Option Value) → Meets bytes (log_of vs) q o → 0 ≡ q → o ≡ none
key_missing bytes vs q none h e = refl
key_missing bytes vs q (some v) h e = absurd (omega (arith, h.0))

pub key_meets : (bytes : List ℕ) (vs : List Slot) (x : Value) (g : List Key) (t : Table) (p : ℕ) → Stand bytes vs x g t p → (k : List ℕ)
    → Meets bytes (log_of vs) (to bytes vs (name k ∷ g)) (lookup t k)
key_meets bytes vs x g t p a k =
    subst (λ (o : Option Value). Meets bytes (log_of vs) (to bytes vs (name k ∷ g)) o) (ap (read_as (λ v. get v (name k))) a.found) (a.agree.shown (name k ∷ g))

pub search_is : (bytes : List ℕ) (vs : List Slot) (x : Value) (g : List Key) (t : Table) (p : ℕ) → Stand bytes vs x g t p → (key k : List ℕ) → key ≡ k
    → place_of (look_s bytes 0 vs p key None) ≡ to bytes vs (name k ∷ g)
search_is bytes vs x g t p a key k e =
    let d : kind_at (log_of vs) p ≡ 5 = subst (λ (z : ℕ). kind_at (log_of vs) z ≡ 5) a.leads (table_at_lem bytes vs x a.agree g t a.found) in
    look_is bytes vs p key d ∙ ap (λ (z : ℕ). walk bytes (log_of vs) z (name key ∷ [])) (sym a.leads) ∙ ap (λ (z : List ℕ). to bytes vs (name z ∷ g)) e

module _ (limit : ℕ) (bytes : List ℕ) (vs : List Slot) (x : Value) (g : List Key) (t : Table) (p : ℕ) (a : Stand bytes vs x g t p) (s : Seg) (k : List ℕ)
    (spelt : part s.at (s.at + s.len) bytes ≡ k) (lies : s.at + s.len ≤ length bytes) (ks : List (List ℕ))
    (next : List Slot → ℕ → GrownS) (go : (ws : List Slot) (y : Value) (h : List Key) (u : Table) (q : ℕ) → Stand bytes ws y h u q → Comes limit bytes ws y h u ks (next ws q)) where
  step_new : read_as as_table (lookup t k) ≡ none → Comes limit bytes vs x g t (k ∷ ks) (onward (make_s limit vs (keyed_slot 5 p s)) next)
  step_new e =
      make_comes limit bytes vs x g t p a s k spelt lies ks (enter_none limit (lookup t k) e) next
      (λ h. go _ _ (name k ∷ g) empty (length vs + 2) h)

  step_old : (n : ℕ) → n + 2 ≡ to bytes vs (name k ∷ g) → (w : Table) → lookup t k ≡ some (table w) → Comes limit bytes vs x g t (k ∷ ks) (next vs (n + 2))
  step_old n e w d =
      old_comes limit bytes vs x g t p a s k spelt lies ks w d (next vs (n + 2))
      (go vs x (name k ∷ g) w (n + 2) (record { agree = a.agree; found = ap (read_as (λ v. get v (name k))) a.found ∙ d; leads = sym e }))

  step_comes : (r : Maybe ℕ) → place_of r ≡ to bytes vs (name k ∷ g) → Comes limit bytes vs x g t (k ∷ ks) (onward (enter_by limit vs p s r) next)
  step_comes (Some n) e =
      let f : Key-found bytes vs n (lookup t k) = key_found bytes vs (to bytes vs (name k ∷ g)) n (lookup t k) (key_meets bytes vs x g t p a k) e in
      on (eqb (get_or vs n void).kind 5)
      (λ c. let u = kind_table bytes (get_or vs n void) f.it f.shows (eqb-true (get_or vs n void).kind 5 c) in
      rw c (step_old n e u.0 (f.is ∙ ap some u.1)))
      (λ c. rw c (step_new (ap (read_as as_table) f.is ∙ kind_other bytes (get_or vs n void) f.it f.shows (eqb-false (get_or vs n void).kind 5 c))))
  step_comes None e =
      step_new (ap (read_as as_table) (key_missing bytes vs (to bytes vs (name k ∷ g)) (lookup t k) (key_meets bytes vs x g t p a k) e))

-- the theorem of walks: along every path both come to the same table, or are refused by 16
pub down_comes : (limit : ℕ) (bytes : List ℕ) (ss : List Seg) (ks : List (List ℕ)) → Spelling bytes ss ks
    → (vs : List Slot) (x : Value) (g : List Key) (t : Table) (p : ℕ) → Stand bytes vs x g t p → Comes limit bytes vs x g t ks (down_s limit bytes ss vs p)
unfolding enter_s
down_comes limit bytes [] [] sp vs x g t p a =
    record {
      tree = x;
      tab = t;
      stand = a;
      is = λ f. refl;
      news = [];
      longer = sym (append-nil vs);
      kept = λ q l. refl;
      calm = λ n h. h;
      closed = λ n e o h. h;
    }
down_comes limit bytes [] (k ∷ ks) sp vs x g t p a = absurd sp
down_comes limit bytes (s ∷ ss) [] sp vs x g t p a = absurd sp
down_comes limit bytes (s ∷ ss) (k ∷ ks) sp vs x g t p a =
    step_comes limit bytes vs x g t p a s k sp.0 sp.1 ks (down_s limit bytes ss)
    (λ ws y h u q b. down_comes limit bytes ss ks sp.2 ws y h u q b)
    (look_s bytes 0 vs p (part s.at (s.at + s.len) bytes) None)
    (search_is bytes vs x g t p a (part s.at (s.at + s.len) bytes) k sp.0)
