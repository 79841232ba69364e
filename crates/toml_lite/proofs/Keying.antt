-- A key laid into the store, and the walk of the tree along it.
use Prim.Native.Nat.{ℕ, zero, suc, ◌+◌, ◌-◌, ◌≤◌, ◌<◌}
use mathlib.Core.List.{List, [], ◌∷◌, ◌++◌, append_assoc}
use mathlib.Core.Path.{◌≡◌, refl, sym, ap, ◌∙◌}
use native.Mathlib.Omega.{arith}
use lib.Dec.{eqb}
use lib.ListN.{length, take, drop, length-append}
use lib.Seq.{length-take-le}
use Rattle.std.specs.Prelude.{Result, Ok, Err}
use Rattle.meaning.specs.declared.Limits.{Limits}
use Rattle.meaning.specs.declared.Refused.{Refused}
use Rattle.meaning.specs.Numbered.{number, number_if}
use Rattle.meaning.specs.Base.{cut, on_first, zeros}
use Rattle.meaning.specs.Refusal.{R, ok, bad, ok_then}
use Rattle.meaning.specs.Space.{trim}
use Rattle.meaning.specs.Keys.{segment, segments, keys}
use Rattle.meaning.specs.Document as meant
use Rattle.laws.specs.Cases.{on}
use Rattle.laws.specs.Stored.{stored, length_stored}
use Rattle.scalar.specs.Stores.{over}
use Rattle.scalar.specs.Splits.{takes, flat, bytes_of, ends_of, Splits}
use Rattle.scalar.specs.declared.key.Key.{Key}
use Rattle.scalar.specs.declared.key.BadKey.{BadKey}
use Rattle.scalar.proofs.Keying.{Accepted, accepted, key_refused, key_few}
use Rattle.values.specs.declared.State.{State}
use Rattle.values.specs.declared.grow.Here.{Here}
use Rattle.values.specs.Grow.{Seg, Grown, grown, stuck, segs_of, down_s, push_s, to_last_s, hang_s}
use Rattle.values.specs.Carries.{slots_of, Begins, AllWithin, SegsWithin, GrownWithin, Paths, Keyed, Assigns, numbered, Grew}
use Rattle.values.specs.Doc.{Doc, settle_s, path_by, line_s}
use Rattle.values.proofs.Outs.{number_some}
use Rattle.values.proofs.Carrying.{over_over}
use Rattle.values.proofs.Beginning.{within_more, ends_within, ends_rising, key_ends, key_there, down_begins, push_path_begins, assign_begins, down_within, push_path_within, assign_within}
use Rattle.toml_lite.specs.declared.Progress.{Progress}
use Rattle.toml_lite.specs.Rooms.{progress_at, doc_of, hang_k, Hanging, Taking, Lined}

-- ---- an accepted key has a segment
first_some : (b : ℕ) (ls : List (List ℕ)) → 0 < length (on_first b ls)
first_some b [] = omega arith
first_some b (l ∷ ls) = omega arith

cut_some : (c : ℕ) (s : List ℕ) → 0 < length (cut c s)
cut_some c [] = omega arith
cut_some c (b ∷ s) = on (eqb b c) (λ e. rw e (omega arith)) (λ e. rw e (first_some b (cut c s)))

via_some : (m : R (List ℕ)) (r : R (List (List ℕ))) (ks : List (List ℕ)) → ok_then m (λ k. ok_then r (λ ls. ok (k ∷ ls))) ≡ ok ks → 0 < length ks
via_some (ok k) (ok ls) ks e = let z : k ∷ ls ≡ ks = cc in omega (arith, ap length z)
via_some (ok k) (bad n) ks e = let z : ◌≡◌ {A = ℕ} 0 1 = cc in absurd (omega arith)
via_some (bad n) r ks e = let z : ◌≡◌ {A = ℕ} 0 1 = cc in absurd (omega arith)

parts_some : (n : ℕ) (ps ks : List (List ℕ)) → 0 < length ps → segments n ps ≡ ok ks → 0 < length ks
parts_some n [] ks l e = absurd (omega arith)
parts_some zero (p ∷ ps) ks l e = let z : ◌≡◌ {A = ℕ} 0 1 = cc in absurd (omega arith)
parts_some (suc n) (p ∷ ps) ks l e = via_some (segment (trim p)) (segments n ps) ks e

keys_some : (n : ℕ) (s : List ℕ) (ks : List (List ℕ)) → keys n s ≡ ok ks → 0 < length ks
unfolding keys
keys_some n s ks e = parts_some n (cut 46 s) ks (cut_some 46 s) e

-- ---- what a line answers by what its walk answers: the place f of where it came to is where assignments go
abbrev pub after : (ℕ → ℕ) → ℕ → Result Here Refused → Result Progress Refused
after f used (Ok h) = Ok (progress_at h.made used (f h.place))
after f used (Err e) = Err e

pub after_ok : (f : ℕ → ℕ) (used : ℕ) (g : Result Here Refused) (h : Here) (r : Progress) → g ≡ Ok h → r ≡ progress_at h.made used (f h.place) → Ok r ≡ after f used g
after_ok f used g h r q e = ap Ok e ∙ sym (ap (after f used) q)

pub after_err : (f : ℕ → ℕ) (used : ℕ) (g : Result Here Refused) (e : Refused) (v : Result Progress Refused) → g ≡ Err e → v ≡ Err e → v ≡ after f used g
after_err f used g e v q z = z ∙ sym (ap (after f used) q)

after_is : (f : ℕ → ℕ) (used : ℕ) (g : Result Here Refused) (h : Here) → numbered g ≡ ok h → numbered (after f used g) ≡ ok (progress_at h.made used (f h.place))
after_is f used (Ok x) h e =
    let w : ◌≡◌ {A = R Here} (ok x) (ok h) = e in
    let y : x ≡ h = cc in
    ap (λ (z : Here). ok (progress_at z.made used (f z.place))) y
after_is f used (Err r) h e = let w : ◌≡◌ {A = R Here} (bad (number r)) (ok h) = e in let z : ◌≡◌ {A = ℕ} 0 1 = cc in absurd (omega arith)

after_bad : (f : ℕ → ℕ) (used : ℕ) (g : Result Here Refused) (n : ℕ) → numbered g ≡ bad n → numbered (after f used g) ≡ bad n
after_bad f used (Ok x) n e = let w : ◌≡◌ {A = R Here} (ok x) (bad n) = e in let z : ◌≡◌ {A = ℕ} 0 1 = cc in absurd (omega arith)
after_bad f used (Err r) n e =
    let w : ◌≡◌ {A = R Here} (bad (number r)) (bad n) = e in
    let y : number r ≡ n = cc in
    ap bad y

length_segs : (at : ℕ) (es : List ℕ) → length (segs_of at es) ≡ length es
length_segs at [] = refl
length_segs at (e ∷ es) = ap suc (length_segs e es)

ends_long : (at : ℕ) (ks : List (List ℕ)) → length (ends_of at ks) ≡ length ks
ends_long at [] = refl
ends_long at (k ∷ ks) = ap suc (ends_long (at + length k) ks)

-- ---- the key is laid
-- the store and the segments then
pub record Spelt (limits : Limits) (s store store' : List ℕ) (st : State) (key : Key) (ks : List (List ℕ)) : Type 0 where
  pub is : keys limits.segments s ≡ ok ks
  pub count : key.n ≡ length ks
  pub some : 0 < length ks
  pub laid : store' ≡ over (take st.used store ++ flat ks) store
  pub used : key.used ≡ length (take st.used store ++ flat ks)
  pub long : length store' ≡ length store
  pub short : length (take st.used store ++ flat ks) ≤ st.used + length s
  pub before : length (take st.used store) ≡ st.used
  pub ends : take key.n key.ends ≡ ends_of st.used ks
  pub there : key.n ≤ length key.ends
  pub few : key.n ≤ 16

module _ (limits : Limits) (s store tree : List ℕ) (st : State) (h : Taking limits (length s) store tree st) (store' : List ℕ) (o : Result Key BadKey)
    (k : Splits limits.segments s store st.used store' o) where
  same_long : length store' ≡ length store
  same_long = ap length k.left ∙ length_stored store st.used (bytes_of (takes limits.segments s)) (omega (arith, k.reach, k.fits, h.room))

  pub key_fault_lem : (f : List ℕ → List Seg → R Doc) (b : BadKey) (r : Result Progress Refused) → o ≡ Err b → r ≡ Err b.refused
      → Lined limits (length s) store tree store' tree st (path_by (take st.used store) (keys limits.segments s) f) r
  key_fault_lem f b r q e =
      rw (e, key_refused limits.segments s store st.used store' o k b q) (record { says = refl; store_long = same_long; tree_long = refl; kept = tt })

  pub spelt_key : (key : Key) → o ≡ Ok key → Spelt limits s store store' st key (takes limits.segments s).segs
  unfolding stored
  spelt_key key q =
      let ks : List (List ℕ) = (takes limits.segments s).segs in
      let a : Accepted limits.segments s store st.used store' ks key = accepted limits.segments s store st.used store' o k key q in
      let c : (key.n ≤ limits.segments) × (key.used ≤ st.used + length s) = key_few limits.segments s store st.used store' o k key q in
      let b : length (take st.used store) ≡ st.used = length-take-le st.used store h.holding.fits in
      let m : length (take st.used store ++ flat ks) ≡ st.used + length (flat ks) = omega (arith, length-append (take st.used store) (flat ks)) in
      record {
        is = a.is;
        count = a.count;
        some = keys_some limits.segments s ks a.is;
        laid = a.left ∙ rw m (sym (append_assoc (take st.used store) (flat ks) (drop (st.used + length (flat ks)) store)));
        used = a.reach ∙ sym m;
        long = same_long;
        short = omega (arith, a.reach, c.1);
        before = b;
        ends = key_ends key st.used ks (zeros (16 - length ks)) a.places a.count;
        there = key_there key st.used ks (zeros (16 - length ks)) a.places a.count;
        few = omega (arith, c.0, h.holding.segs);
      }

-- ---- the walk along it
module _ (limits : Limits) (s store tree : List ℕ) (st : State) (h : Taking limits (length s) store tree st) (store' : List ℕ) (key : Key)
    (ks : List (List ℕ)) (w : Spelt limits s store store' st key ks) where
  abbrev bytes : List ℕ
  bytes = take st.used store ++ flat ks

  abbrev segs : List Seg
  segs = segs_of st.used (ends_of st.used ks)

  size : length bytes ≡ st.used + length (flat ks)
  size = omega (arith, length-append (take st.used store) (flat ks), w.before)

  begins : Begins store' bytes
  begins = record { is = rw w.laid (sym (over_over bytes bytes store (omega arith))) }

  slots_in : AllWithin (length bytes) (slots_of tree st.made)
  slots_in = within_more st.used (length bytes) (slots_of tree st.made) (omega (arith, size)) h.holding.within

  segs_in : SegsWithin (length bytes) segs
  segs_in = ends_within (length bytes) st.used ks (omega (arith, size))

  paths : Paths limits.values tree store' st.made key st.used key.n
  paths =
      record {
        grows = h.holding.grows;
        rising = rw w.ends (ends_rising store' st.used ks (omega (arith, size, w.short, w.long, h.room)) (omega (arith, size, w.short, h.low)));
        few = w.few;
        there = w.there;
      }

  module _ (tree' : List ℕ) (f : ℕ → ℕ) (g : Result Here Refused) where
    settles : (m : Grown) → Grew limits.values tree tree' st.made m g → GrownWithin (length bytes) m
        → Lined limits (length s) store tree store' tree' st (settle_s bytes m f) (after f key.used g)
    settles (grown vs p) a i =
        record {
          says = after_is f key.used g (record { made = length vs; limit = limits.values; place = p }) a.says ∙ ap (λ (u : ℕ). ok (progress_at (length vs) u (f p))) w.used;
          store_long = w.long;
          tree_long = a.long;
          kept = record {
            store_is = w.laid;
            tree_is = a.kept.is;
            carried = a.kept.carried;
            within = i;
            more = omega (arith, size);
            short = w.short;
            grew = a.kept.more;
            most = a.kept.most;
          };
        }
    settles (stuck n) a i = record { says = after_bad f key.used g n a.says; store_long = w.long; tree_long = a.long; kept = tt }

    walked : (m : List ℕ → List Seg → Grown) → Grew limits.values tree tree' st.made (m store' (segs_of st.used (take key.n key.ends))) g
        → m store' segs ≡ m bytes segs → GrownWithin (length bytes) (m bytes segs) → (r : Result Progress Refused) → r ≡ after f key.used g
        → Lined limits (length s) store tree store' tree' st (path_by (take st.used store) (keys limits.segments s) (λ b l. settle_s b (m b l) f)) r
    walked m a e i r q =
        let x : Grew limits.values tree tree' st.made (m store' segs) g = rw w.ends at a in
        let y : Grew limits.values tree tree' st.made (m bytes segs) g = rw e at x in
        rw (w.is, w.before, q) (settles (m bytes segs) y i)

-- ---- header
module _ (limits : Limits) (s store tree : List ℕ) (st : State) (h : Taking limits (length s) store tree st) (store' : List ℕ) (o : Result Key BadKey)
    (k : Splits limits.segments s store st.used store' o) where
  abbrev named : List (List ℕ)
  named = (takes limits.segments s).segs

  pub header_fault : (b : BadKey) (r : Result Progress Refused) → o ≡ Err b → r ≡ Err b.refused → Lined limits (length s) store tree store' tree st (line_s limits (meant.heads s) (doc_of store tree st 1)) r
  unfolding line_s
  header_fault b r q e =
      key_fault_lem limits s store tree st h store' o k (λ b l. settle_s b (down_s limits.values b l (slots_of tree st.made) 1) (λ p. p)) b r q e

  pub header_paths : (key : Key) → o ≡ Ok key → Paths limits.values tree store' st.made key st.used key.n
  header_paths key z = paths limits s store tree st h store' key named (spelt_key limits s store tree st h store' o k key z)

  pub header_done : (key : Key) → o ≡ Ok key → (tree' : List ℕ) (g : Result Here Refused) (r : Result Progress Refused)
      → Grew limits.values tree tree' st.made (down_s limits.values store' (segs_of st.used (take key.n key.ends)) (slots_of tree st.made) 1) g
      → r ≡ after (λ p. p) key.used g
      → Lined limits (length s) store tree store' tree' st (line_s limits (meant.heads s) (doc_of store tree st 1)) r
  unfolding line_s
  header_done key z tree' g r a q =
      let w : Spelt limits s store store' st key named = spelt_key limits s store tree st h store' o k key z in
      let b : List ℕ = take st.used store ++ flat named in
      let l : List Seg = segs_of st.used (ends_of st.used named) in
      let i : AllWithin (length b) (slots_of tree st.made) = slots_in limits s store tree st h store' key named w in
      let j : SegsWithin (length b) l = segs_in limits s store tree st h store' key named w in
      walked limits s store tree st h store' key named w tree' (λ p. p) g (λ c m. down_s limits.values c m (slots_of tree st.made) 1) a
      (down_begins store' b (begins limits s store tree st h store' key named w) limits.values l (slots_of tree st.made) 1 i j)
      (down_within limits.values (length b) b l (slots_of tree st.made) 1 i j) r q

  -- ---- header_item
  pub item_fault : (b : BadKey) (r : Result Progress Refused) → o ≡ Err b → r ≡ Err b.refused → Lined limits (length s) store tree store' tree st (line_s limits (meant.pushes s) (doc_of store tree st 1)) r
  unfolding line_s
  item_fault b r q e =
      key_fault_lem limits s store tree st h store' o k (λ b l. settle_s b (to_last_s limits.values b (push_s limits.values b) l (slots_of tree st.made) 1) (λ p. p)) b r q e

  key_some : (key : Key) → o ≡ Ok key → 0 < key.n
  key_some key z =
      let w : Spelt limits s store store' st key named = spelt_key limits s store tree st h store' o k key z in
      omega (arith, w.some, w.count)

  pub item_keyed : (key : Key) → o ≡ Ok key → Keyed limits.values tree store' st.made key st.used
  item_keyed key z = record { path = header_paths key z; some = key_some key z }

  pub item_done : (key : Key) → o ≡ Ok key → (tree' : List ℕ) (g : Result Here Refused) (r : Result Progress Refused)
      → Grew limits.values tree tree' st.made (to_last_s limits.values store' (push_s limits.values store') (segs_of st.used (take key.n key.ends)) (slots_of tree st.made) 1) g
      → r ≡ after (λ p. p) key.used g
      → Lined limits (length s) store tree store' tree' st (line_s limits (meant.pushes s) (doc_of store tree st 1)) r
  unfolding line_s
  item_done key z tree' g r a q =
      let w : Spelt limits s store store' st key named = spelt_key limits s store tree st h store' o k key z in
      let b : List ℕ = take st.used store ++ flat named in
      let l : List Seg = segs_of st.used (ends_of st.used named) in
      let i : AllWithin (length b) (slots_of tree st.made) = slots_in limits s store tree st h store' key named w in
      let j : SegsWithin (length b) l = segs_in limits s store tree st h store' key named w in
      walked limits s store tree st h store' key named w tree' (λ p. p) g (λ c m. to_last_s limits.values c (push_s limits.values c) m (slots_of tree st.made) 1) a
      (push_path_begins store' b (begins limits s store tree st h store' key named w) limits.values l (slots_of tree st.made) 1 i j)
      (push_path_within limits.values (length b) b l (slots_of tree st.made) 1 i j) r q

-- ---- hang_key
module _ (limits : Limits) (s store tree : List ℕ) (st : State) (number here : ℕ) (hang : Hanging limits (length s) store tree st number) (store' : List ℕ) (o : Result Key BadKey)
    (k : Splits limits.segments s store st.used store' o) where
  pub hang_fault : (b : BadKey) (r : Result Progress Refused) → o ≡ Err b → r ≡ Err b.refused → Lined limits (length s) store tree store' tree st (hang_k limits s number (doc_of store tree st here)) r
  unfolding hang_k
  hang_fault b r q e =
      key_fault_lem limits s store tree st hang.taking store' o k (λ b l. settle_s b (to_last_s limits.values b (hang_s number) l (slots_of tree st.made) here) (λ _. here)) b r q e

  pub hang_assigns : (key : Key) → o ≡ Ok key → Assigns limits.values tree store' st.made key st.used number
  hang_assigns key z = record { keyed = item_keyed limits s store tree st hang.taking store' o k key z; below = hang.below }

  pub hang_done : (key : Key) → o ≡ Ok key → (tree' : List ℕ) (g : Result Here Refused) (r : Result Progress Refused)
      → Grew limits.values tree tree' st.made (to_last_s limits.values store' (hang_s number) (segs_of st.used (take key.n key.ends)) (slots_of tree st.made) here) g
      → r ≡ after (λ _. here) key.used g
      → Lined limits (length s) store tree store' tree' st (hang_k limits s number (doc_of store tree st here)) r
  unfolding hang_k
  hang_done key z tree' g r a q =
      let h : Taking limits (length s) store tree st = hang.taking in
      let ks : List (List ℕ) = (takes limits.segments s).segs in
      let w : Spelt limits s store store' st key ks = spelt_key limits s store tree st h store' o k key z in
      let b : List ℕ = take st.used store ++ flat ks in
      let l : List Seg = segs_of st.used (ends_of st.used ks) in
      let i : AllWithin (length b) (slots_of tree st.made) = slots_in limits s store tree st h store' key ks w in
      let j : SegsWithin (length b) l = segs_in limits s store tree st h store' key ks w in
      walked limits s store tree st h store' key ks w tree' (λ _. here) g (λ c m. to_last_s limits.values c (hang_s number) m (slots_of tree st.made) here) a
      (assign_begins store' b (begins limits s store tree st h store' key ks w) limits.values number l (slots_of tree st.made) here i j)
      (assign_within limits.values (length b) b number l (slots_of tree st.made) here i j) r q
