-- An assignment: the value's strings and slots first, then the key's segments, the tables on its way, and the value hung up last.
use Rattle.std.specs.Prelude.{ℕ, ◌+◌, ◌≤◌, ◌<◌, ◌≡◌, refl, set}
use mathlib.Core.List.{List, [], ◌∷◌, ◌++◌}
use Rattle.std.proofs.Math.Option.{Option, some}
use Rattle.std.proofs.Math.Path.{sym, ap, subst}
use Rattle.std.proofs.Common.{◌∙◌, arith}
use Rattle.std.proofs.Math.ListN.{length, get_or, length-append, get_or-append}
use Rattle.meaning.specs.declared.Limits.{Limits}
use Rattle.meaning.specs.Base.{part, concat}
use Rattle.meaning.specs.Refusal.{numbered, bad}
use Rattle.meaning.specs.Reading.{Grown, grown, stuck, Got, grow_map, storing, adding}
use Rattle.meaning.specs.Tree.{Value, Table, table, along_path, table_or_new, put_value, assign}
use Rattle.meaning.specs.Document.{Doc, under_header}
use Rattle.tree.specs.declared.Slot.{Slot}
use Rattle.tree.specs.Room.{hung}
use Rattle.values.specs.Grow.{Seg, void, down_s, to_last_s, hang_s, Grown as GrownS, grown as grownS, stuck as stuckS, onward as onwardS}
use Rattle.values.specs.Doc.{Doc as DocS, settle_s}
use Rattle.agree.specs.Key.{Key, name}
use Rattle.agree.specs.Finds.{find, put, set_at, at, way}
use Rattle.agree.specs.Steps.{Agree, to, Calm, Sealed}
use Rattle.agree.specs.Down.{onto, graft, Spelling, Stand, Came, Comes}
use Rattle.agree.proofs.Down.{down_comes}
use Rattle.agree.specs.Block.{Laid}
use Rattle.agree.proofs.Block.{laid_move}
use Rattle.agree.specs.Store.{Lain}
use Rattle.agree.proofs.Store.{shows_more, laid_all, some_all, free_all, to_all, agree_all, calm_all, sealed_all}
use Rattle.agree.proofs.Hang.{agree_hung, kept_hung, length_hung}
use Rattle.agree.specs.Here.{init, last, Held}
use Rattle.agree.proofs.Here.{to_last_is, here_is, held_set}
use Rattle.agree.specs.Lines.{Same, Line-agrees, Ungrafted}
use Rattle.agree.proofs.Lines.{ungraft, unstuck, spelling_init, spelling_last, to_last_s_is}

onto_long : (q : List Key) (ks : List (List ℕ)) → length q ≤ length (onto q ks)
onto_long q [] = omega arith
onto_long q (k ∷ ks) = omega (arith, onto_long (name k ∷ q) ks)

-- the values after those that stand are as they were
front_same : (vs ws us : List Slot) → us ≡ vs ++ ws → (i : ℕ) → i < length vs → get_or us i void ≡ get_or vs i void
front_same vs ws us e i l = ap (λ (z : List Slot). get_or z i void) e ∙ get_or-append vs ws void i l

pub lain_more : (bytes more : List ℕ) (n : ℕ) (ws : List Slot) (v : Value) → Lain bytes n ws v → Lain (bytes ++ more) n ws v
lain_more bytes more n ws v h =
    record {
      laid = λ at e. laid_move bytes (bytes ++ more) at at (shows_more bytes more) v n (n + length ws) (λ m a b. refl) refl refl (h.laid at e);
      free = h.free;
      keyless = h.keyless;
    }

module _ (lim : Limits) (d : Doc) (r : DocS) (s : Same d r) (v : Value) (ws : List Slot) (b : List ℕ)
    (agree-b : Agree b r.slots (table d.root)) (to-b : (q : List Key) → to b r.slots q ≡ to r.bytes r.slots q) (lain : Lain b (length r.slots) ws v)
    (k : List ℕ) (ks : List (List ℕ)) (g : Seg) (gs : List Seg) (spells : Spelling b (g ∷ gs) (k ∷ ks)) (bs : List ℕ) (is_store : b ≡ r.bytes ++ (bs ++ concat (k ∷ ks))) where
  abbrev x : Value
  x = table d.root

  abbrev n : ℕ
  n = length r.slots

  abbrev all : List Slot
  all = r.slots ++ ws

  front : List (List ℕ)
  front = init k ks

  key : List ℕ
  key = last k ks

  abbrev home : List Key
  home = s.way_to

  stand : Stand b all x home s.tab r.here
  stand =
      record {
        agree = agree_all b r.slots ws x v agree-b lain;
        found = s.found;
        leads = to_all b r.slots ws x v agree-b lain home ∙ to-b home ∙ s.leads;
      }

  abbrev line : Got Doc
  line =
      adding bs (storing (concat (k ∷ ks)) (grow_map (λ t. record { root = t; under = d.under }) (under_header d.under (assign lim.values (k ∷ ks) v) d.root (length all))))

  -- where 01 goes
  here_goes : graft x [] (under_header d.under (assign lim.values (k ∷ ks) v) d.root (length all))
      ≡ graft x home (along_path (table_or_new lim.values) (put_value v key) front s.tab (length all))
  unfolding key front
  here_goes =
      here_is d.root d.under home s.tab s.held s.found (assign lim.values (k ∷ ks) v) (length all)
      ∙ ap (graft x home) (to_last_is (table_or_new lim.values) (put_value v) k ks s.tab (length all))

  set_stuck : (i : ℕ) → along_path (table_or_new lim.values) (put_value v key) front s.tab (length all) ≡ stuck (numbered i) → Line-agrees r.bytes line (bad i)
  set_stuck i e =
      let z : under_header d.under (assign lim.values (k ∷ ks) v) d.root (length all) ≡ stuck (numbered i) =
      unstuck x [] (under_header d.under (assign lim.values (k ∷ ks) v) d.root (length all)) (numbered i) (here_goes ∙ ap (graft x home) e) in
      rw z refl

  module _ (vs : List Slot) (p : ℕ) (c : Came lim.values b all x home s.tab front vs p) where
    tail_path : List Key
    tail_path = onto home front

    e : ℕ
    e = n + length ws

    front_all : (i : ℕ) → i < e → get_or vs i void ≡ get_or all i void
    unfolding e
    front_all i l = front_same all c.news vs c.longer i (omega (arith, length-append r.slots ws))

    long_all : e ≤ length vs
    unfolding e
    long_all = omega (arith, length-append r.slots ws, ap length c.longer, length-append all c.news)

    some_slots : n < e
    unfolding e
    some_slots = some_all b r.slots ws x v agree-b lain

    laid : Laid b (λ i. get_or vs i void) n v e
    unfolding e
    laid =
        laid_move b b (λ i. get_or all i void) (λ i. get_or vs i void) (λ w u h. h) v n e (λ i l h. front_all i h)
        (ap (λ (w : Slot). w.kind) (front_all n some_slots)) (ap (λ (w : Slot). w.«data») (front_all n some_slots)) (laid_all b r.slots ws x v agree-b lain)

    free : (get_or vs n void).parent ≡ 0
    free = ap (λ (w : Slot). w.parent) (front_all n some_slots) ∙ free_all b r.slots ws x v agree-b lain

    calm : Calm b vs n tail_path
    unfolding tail_path
    calm = c.calm n (calm_all b r.slots ws x v agree-b lain home)

    shut : Sealed n e vs
    unfolding e
    shut = c.closed n e (omega (arith, length-append r.slots ws)) (sealed_all b r.slots ws x v agree-b lain)

    spelt : (part (last g gs).at ((last g gs).at + (last g gs).len) b ≡ key) × ((last g gs).at + (last g gs).len ≤ length b)
    unfolding key
    spelt = spelling_last b g gs k ks spells

    abbrev final : List Slot
    final = set vs n (hung p (last g gs).at (last g gs).len (get_or vs n void))

    tree : Value
    tree = set_at c.tree (name key ∷ onto home front) v

    final_agree : Agree b final tree
    unfolding tree tail_path
    final_agree =
        agree_hung b vs c.tree (onto home front) c.tab p c.stand (last g gs) key spelt.0 spelt.1 n e v laid long_all free calm shut

    final_goes : graft x home (along_path (table_or_new lim.values) (put_value v key) front s.tab (length all)) ≡ grown tree (length vs)
    unfolding tree
    final_goes =
        c.is (put_value v key) ∙ ap (λ (o : Option Value). grown (set_at c.tree (onto home front) (put o (name key) v)) (length vs)) (sym c.stand.found)

    final_leads : to b final home ≡ r.here
    unfolding tail_path
    final_leads =
        kept_hung b vs c.tree (onto home front) c.tab p c.stand (last g gs) key spelt.0 spelt.1 n e v laid long_all free calm shut home (onto_long home front)
        ∙ c.kept home (omega arith) ∙ stand.leads

    set_hung : Line-agrees r.bytes line (settle_s b (hang_s n vs p (last g gs)) (λ _. r.here))
    unfolding key tail_path
    set_hung =
        let step : Grown Table = along_path (table_or_new lim.values) (put_value v key) front s.tab (length all) in
        let whole : Grown Table = under_header d.under (assign lim.values (k ∷ ks) v) d.root (length all) in
        let u : Ungrafted x home step tree (length vs) = ungraft x home step tree (length vs) final_goes in
        let w : Ungrafted x [] whole tree (length vs) = ungraft x [] whole tree (length vs) (here_goes ∙ final_goes) in
        let z : set_at x home (table u.it) ≡ table w.it = sym u.tree ∙ w.tree in
        rw w.is (
          is_store,
          sym (length_hung b vs c.tree (onto home front) c.tab p c.stand (last g gs) key spelt.0 spelt.1 n e v laid long_all free calm shut),
          record {
            agree = subst (λ (y : Value). Agree b final y) w.tree final_agree;
            way_to = home;
            held = subst (λ (y : Value). Held y d.under home) z (held_set x d.under home s.tab u.it s.held s.found);
            tab = u.it;
            found = subst (λ (y : Value). find (some y) home ≡ some (table u.it)) z (at home x (table u.it) (way home x (table s.tab) s.found));
            leads = final_leads;
          },
        )

  set_from : (w : GrownS) → Comes lim.values b all x home s.tab front w
      → Line-agrees r.bytes line (settle_s b (onwardS w (λ vs q. hang_s n vs q (last g gs))) (λ _. r.here))
  set_from (grownS vs p) c = set_hung vs p c
  set_from (stuckS i) c = set_stuck i (c.1 (put_value v key) ∙ ap (λ (j : ℕ). stuck (numbered j)) (sym c.0))

  pub set_agrees : Line-agrees r.bytes
      (adding bs (storing (concat (k ∷ ks)) (grow_map (λ t. record { root = t; under = d.under }) (under_header d.under (assign lim.values (k ∷ ks) v) d.root (length (r.slots ++ ws))))))
      (settle_s b (to_last_s lim.values b (hang_s (length r.slots)) (g ∷ gs) (r.slots ++ ws) r.here) (λ _. r.here))
  unfolding front
  set_agrees =
      rw (to_last_s_is lim.values b (hang_s n) g gs all r.here)
      (set_from (down_s lim.values b (init g gs) all r.here)
      (down_comes lim.values b (init g gs) (init k ks) (spelling_init b g gs k ks spells) all x home s.tab r.here stand))
