-- One line: the rooms and the tree of 01 go on agreeing, or refuse it by the same number.
use Rattle.std.specs.Prelude.{ℕ, ◌+◌, ◌-◌, ◌≤◌, ◌≡◌, length, take, drop}
use mathlib.Core.List.{List, [], ◌∷◌, ◌++◌, append_assoc}
use Rattle.std.proofs.Math.Option.{some}
use Rattle.std.proofs.Math.Path.{refl, sym, ap, subst}
use Rattle.std.proofs.Common.{◌∙◌, arith, length-append}
use Rattle.std.proofs.Math.Seq.{take-append_seam, drop-append_seam}
use Rattle.meaning.specs.declared.Limits.{Limits}
use Rattle.meaning.specs.Base.{part, concat}
use Rattle.meaning.specs.Refusal.{Fault, numbered, bad}
use Rattle.meaning.specs.Reading.{Grown, grown, stuck, Got, grow_map, storing}
use Rattle.meaning.specs.Tree.{Value, Items, Table, array, table, empty, read_as, count as many, along_path, table_or_new, push_one, open_tables, push}
use Rattle.meaning.specs.Document.{Doc, tables, arrays}
use Rattle.scalar.specs.Splits.{flat, ends_of}
use Rattle.tree.specs.declared.Slot.{Slot}
use Rattle.values.specs.Grow.{Seg, segs_of, enter_s, down_s, push_s, to_last_s, Grown as GrownS, grown as grownS, stuck as stuckS, onward as onwardS}
use Rattle.values.specs.Doc.{Doc as DocS, settle_s}
use Rattle.agree.specs.Key.{Key, name, index}
use Rattle.agree.specs.Finds.{get, find, set_at, nth, nth_set, set_same, snoc_set, count_snoc}
use Rattle.agree.specs.Steps.{Agree}
use Rattle.agree.specs.Down.{onto, graft, Spelling, Stand, Came, Comes}
use Rattle.agree.proofs.Down.{down_comes}
use Rattle.agree.specs.Push.{longer, Pushes}
use Rattle.agree.proofs.Push.{push_comes}
use Rattle.agree.proofs.Store.{agree_bytes}
use Rattle.agree.specs.Here.{init, last}
use Rattle.agree.proofs.Here.{onto_last, to_last_is}
use Rattle.agree.specs.Lines.{Line-agrees, Same, Ungrafted}

-- ---- segments in the store

pub flat_is : (ks : List (List ℕ)) → flat ks ≡ concat ks
flat_is [] = refl
flat_is (k ∷ ks) = ap (λ (r : List ℕ). k ++ r) (flat_is ks)

pub spelling_of : (ks : List (List ℕ)) (store : List ℕ) → Spelling (store ++ flat ks) (segs_of (length store) (ends_of (length store) ks)) ks
spelling_of [] store = tt
spelling_of (k ∷ ks) store =
    let l : length (store ++ k) ≡ length store + length k = length-append store k in
    let z : length store + (length store + length k - length store) - length store ≡ length k = omega arith in
    let h : Spelling (store ++ (k ++ flat ks)) (segs_of (length store + length k) (ends_of (length store + length k) ks)) ks =
    subst (λ (n : ℕ). Spelling (store ++ (k ++ flat ks)) (segs_of n (ends_of n ks)) ks) l
    (subst (λ (b : List ℕ). Spelling b (segs_of (length (store ++ k)) (ends_of (length (store ++ k)) ks)) ks) (append_assoc store k (flat ks)) (spelling_of ks (store ++ k))) in (
      ap (λ (n : ℕ). take n (drop (length store) (store ++ (k ++ flat ks)))) z ∙ ap (take (length k)) (drop-append_seam store (k ++ flat ks)) ∙ take-append_seam k (flat ks),
      omega (arith, length-append store (k ++ flat ks), length-append k (flat ks)),
      h,
    )

pub spelling_init : (bytes : List ℕ) (s : Seg) (ss : List Seg) (k : List ℕ) (ks : List (List ℕ)) → Spelling bytes (s ∷ ss) (k ∷ ks) → Spelling bytes (init s ss) (init k ks)
spelling_init bytes s [] k [] h = tt
spelling_init bytes s [] k (j ∷ ks) h = absurd h.2
spelling_init bytes s (r ∷ ss) k [] h = absurd h.2
spelling_init bytes s (r ∷ ss) k (j ∷ ks) h = (h.0, h.1, spelling_init bytes r ss j ks h.2)

pub spelling_last : (bytes : List ℕ) (s : Seg) (ss : List Seg) (k : List ℕ) (ks : List (List ℕ)) → Spelling bytes (s ∷ ss) (k ∷ ks)
    → (part (last s ss).at ((last s ss).at + (last s ss).len) bytes ≡ last k ks) × ((last s ss).at + (last s ss).len ≤ length bytes)
spelling_last bytes s [] k [] h = (h.0, h.1)
spelling_last bytes s [] k (j ∷ ks) h = absurd h.2
spelling_last bytes s (r ∷ ss) k [] h = absurd h.2
spelling_last bytes s (r ∷ ss) k (j ∷ ks) h = spelling_last bytes r ss j ks h.2

pub to_last_s_is : (limit : ℕ) (bytes : List ℕ) (f : List Slot → ℕ → Seg → GrownS) (s : Seg) (ss : List Seg) (vs : List Slot) (p : ℕ)
    → to_last_s limit bytes f (s ∷ ss) vs p ≡ onwardS (down_s limit bytes (init s ss) vs p) (λ ws q. f ws q (last s ss))
to_last_s_is limit bytes f s [] vs p = refl
to_last_s_is limit bytes f s (r ∷ ss) vs p = go (enter_s limit bytes vs p s) (λ ws q. to_last_s_is limit bytes f r ss ws q)
  where
    go : (g : GrownS) → ((ws : List Slot) (q : ℕ) → to_last_s limit bytes f (r ∷ ss) ws q ≡ onwardS (down_s limit bytes (init r ss) ws q) (λ ws q. f ws q (last r ss)))
        → onwardS g (to_last_s limit bytes f (r ∷ ss)) ≡ onwardS (onwardS g (down_s limit bytes (init r ss))) (λ ws q. f ws q (last r ss))
    go (grownS ws q) h = h ws q
    go (stuckS n) h = refl

pub ungraft : (x : Value) (h : List Key) (r : Grown Table) (y : Value) (m : ℕ) → graft x h r ≡ grown y m → Ungrafted x h r y m
ungraft x h (grown t n) y m e =
    let a : n ≡ m = cc in let b : y ≡ set_at x h (table t) = cc in record { it = t; is = ap (grown t) a; tree = b }
ungraft x h (stuck f) y m e = let z : ◌≡◌ {A = ℕ} 0 1 = cc in absurd (omega arith)

pub unstuck : (x : Value) (h : List Key) (r : Grown Table) (f : Fault) → graft x h r ≡ stuck f → r ≡ stuck f
unstuck x h (grown t n) f e = cc
unstuck x h (stuck g) f e = let z : g ≡ f = cc in ap stuck z

module _ (lim : Limits) (d : Doc) (r : DocS) (s : Same d r) where
  abbrev x : Value
  x = table d.root

  abbrev m : ℕ
  m = length r.slots

  -- ---- `[..]`

  module _ (ks : List (List ℕ)) where
    store : List ℕ
    store = r.bytes ++ flat ks

    segs : List Seg
    segs = segs_of (length r.bytes) (ends_of (length r.bytes) ks)

    root_stand : Stand store r.slots x [] d.root 1
    unfolding store
    root_stand = record { agree = agree_bytes r.bytes (flat ks) r.slots x s.agree; found = refl; leads = refl }

    spells : Spelling store segs ks
    unfolding store segs
    spells = spelling_of ks r.bytes

    head_by_lem : (g : GrownS) → Comes lim.values store r.slots x [] d.root ks g
        → Line-agrees r.bytes (storing (concat ks) (grow_map (λ t. record { root = t; under = tables ks }) (open_tables lim.values ks d.root m))) (settle_s store g (λ p. p))
    unfolding store
    head_by_lem (grownS vs p) c =
        let e : graft x [] (open_tables lim.values ks d.root m) ≡ grown c.tree (length vs) =
        c.is grown ∙ ap (λ (y : Value). grown y (length vs)) (set_same (onto [] ks) c.tree (table c.tab) c.stand.found) in
        let u : Ungrafted x [] (open_tables lim.values ks d.root m) c.tree (length vs) = ungraft x [] (open_tables lim.values ks d.root m) c.tree (length vs) e in
        rw u.is (
          ap (λ (b : List ℕ). r.bytes ++ b) (flat_is ks),
          refl,
          record {
            agree = subst (λ (y : Value). Agree store vs y) u.tree c.stand.agree;
            way_to = onto [] ks;
            held = refl;
            tab = c.tab;
            found = subst (λ (y : Value). find (some y) (onto [] ks) ≡ some (table c.tab)) u.tree c.stand.found;
            leads = c.stand.leads;
          },
        )
    head_by_lem (stuckS n) c = rw (c.1 grown) (ap numbered (sym c.0))

    pub head_agrees : Line-agrees r.bytes (storing (concat ks) (grow_map (λ t. record { root = t; under = tables ks }) (open_tables lim.values ks d.root m)))
        (settle_s (r.bytes ++ flat ks) (down_s lim.values (r.bytes ++ flat ks) (segs_of (length r.bytes) (ends_of (length r.bytes) ks)) r.slots 1) (λ p. p))
    unfolding store segs
    head_agrees =
        head_by_lem (down_s lim.values store segs r.slots 1)
        (down_comes lim.values store segs ks spells r.slots x [] d.root 1 root_stand)

  -- ---- `[[..]]`

  module _ (k : List ℕ) (ks : List (List ℕ)) (g : Seg) (gs : List Seg) (b : List ℕ) (spells : Spelling b (g ∷ gs) (k ∷ ks))
      (grown-store : (a : Agree r.bytes r.slots x) → Agree b r.slots x) (is_store : b ≡ r.bytes ++ concat (k ∷ ks)) where
    front : List (List ℕ)
    front = init k ks

    key : List ℕ
    key = last k ks

    abbrev pushed_line : Got Doc
    pushed_line = storing (concat (k ∷ ks)) (grow_map (λ t. record { root = t; under = arrays (k ∷ ks) }) (push lim.values (k ∷ ks) d.root m))

    push_stuck : (n : ℕ) → along_path (table_or_new lim.values) (push_one lim.values key) front d.root m ≡ stuck (numbered n) → Line-agrees r.bytes pushed_line (bad n)
    unfolding key front
    push_stuck n e = rw (to_last_is (table_or_new lim.values) (push_one lim.values) k ks d.root m, e) refl

    module _ (vs : List Slot) (p : ℕ) (c : Came lim.values b r.slots x [] d.root front vs p) where
      push_by_lem : (w : GrownS) → Pushes lim.values b vs c.tree (onto [] front) c.tab key w → Line-agrees r.bytes pushed_line (settle_s b w (λ p. p))
      unfolding key front
      push_by_lem (stuckS n) q =
          push_stuck n (unstuck x [] (along_path (table_or_new lim.values) (push_one lim.values key) front d.root m) (numbered n)
          (c.is (push_one lim.values key) ∙ ap (graft c.tree (onto [] front)) q))
      push_by_lem (grownS ws q) h =
          let e : graft x [] (push lim.values (k ∷ ks) d.root m) ≡ grown h.tree (length ws) =
          ap (graft x []) (to_last_is (table_or_new lim.values) (push_one lim.values) k ks d.root m) ∙ c.is (push_one lim.values key) ∙ h.is in
          let u : Ungrafted x [] (push lim.values (k ∷ ks) d.root m) h.tree (length ws) = ungraft x [] (push lim.values (k ∷ ks) d.root m) h.tree (length ws) e in
          let l : onto [] (k ∷ ks) ≡ name key ∷ onto [] front = onto_last [] k ks in
          let f : find (some (table u.it)) (name key ∷ onto [] front) ≡ some (array (longer h.items)) =
          subst (λ (y : Value). find (some y) (name key ∷ onto [] front) ≡ some (array (longer h.items))) u.tree h.found in
          let i : nth (longer h.items) (many h.items) ≡ some (table empty) =
          ap (λ (a : Items). nth a (many h.items)) (sym (snoc_set h.items (table empty))) ∙ nth_set h.items (many h.items) (table empty) (omega arith) in
          rw u.is (
            is_store,
            refl,
            record {
              agree = subst (λ (y : Value). Agree b ws y) u.tree h.agree;
              way_to = index (many h.items) ∷ name key ∷ onto [] front;
              held = record {
                items = longer h.items;
                i = many h.items;
                is = ap (λ (z : List Key). index (many h.items) ∷ z) (sym l);
                found = ap (find (some (table u.it))) l ∙ f;
                last_one = sym (count_snoc h.items (table empty));
              };
              tab = empty;
              found = ap (read_as (λ v. get v (index (many h.items)))) f ∙ i;
              leads = h.leads;
            },
          )

    push_from : (w : GrownS) → Comes lim.values b r.slots x [] d.root front w
        → Line-agrees r.bytes pushed_line (settle_s b (onwardS w (λ vs q. push_s lim.values b vs q (last g gs))) (λ p. p))
    unfolding key
    push_from (grownS vs p) c =
        let z = spelling_last b g gs k ks spells in
        push_by_lem vs p c (push_s lim.values b vs p (last g gs))
        (push_comes lim.values b vs c.tree (onto [] front) c.tab p c.stand (last g gs) key z.0 z.1)
    push_from (stuckS n) c = push_stuck n (c.1 (push_one lim.values key) ∙ ap (λ (i : ℕ). stuck (numbered i)) (sym c.0))

    pub push_agrees : Line-agrees r.bytes (storing (concat (k ∷ ks)) (grow_map (λ t. record { root = t; under = arrays (k ∷ ks) }) (push lim.values (k ∷ ks) d.root m)))
        (settle_s b (to_last_s lim.values b (push_s lim.values b) (g ∷ gs) r.slots 1) (λ p. p))
    unfolding front
    push_agrees =
        rw (to_last_s_is lim.values b (push_s lim.values b) g gs r.slots 1)
        (push_from (down_s lim.values b (init g gs) r.slots 1)
        (down_comes lim.values b (init g gs) (init k ks) (spelling_init b g gs k ks spells) r.slots x [] d.root 1
        (record { agree = grown-store s.agree; found = refl; leads = refl })))
