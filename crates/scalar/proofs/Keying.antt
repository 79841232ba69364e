-- What callers cite of keys: what an answer means, where each segment lies, and that a contract decides.
use Prim.Native.Nat.{ℕ, zero, suc, ◌+◌, ◌-◌, ◌≤◌, ◌<◌}
use mathlib.Core.List.{List, [], ◌∷◌, ◌++◌, append_assoc, append-nil}
use mathlib.Core.Path.{◌≡◌, refl, sym, ap, ◌∙◌}
use native.Mathlib.Omega.{arith}
use native.Mathlib.Nat.{add-zero}
use native.Mathlib.Numerals.{add-one}
use lib.ListN.{length, get_or, take, drop, length-append, get_or-append}
use lib.Seq.{drop-drop, length-take-le, take_at, drop_at}
use Rattle.std.specs.Prelude.{Option, Some, None, Result, Ok, Err}
use Rattle.meaning.specs.Numbered.{number}
use Rattle.meaning.specs.declared.Refused.{Refused}
use Rattle.meaning.specs.Base.{zeros, cut, part}
use Rattle.meaning.specs.Refusal.{R, ok, bad, ok_then}
use Rattle.meaning.specs.Space.{trim}
use Rattle.meaning.specs.declared.Act.{Act}
use Rattle.meaning.specs.declared.Act.TheVariants.{End, Hold, Put, Fault}
use Rattle.meaning.specs.declared.StringByte.{StringByte}
use Rattle.meaning.specs.declared.StringByte.TheVariants.{Plain, AfterBackslash}
use Rattle.meaning.specs.Strings.{act_of, Said, by_act, decode}
use Rattle.meaning.specs.Keys.{segment, segments, keys}
use Rattle.scalar.specs.declared.string.Decoded.{Decoded}
use Rattle.scalar.specs.declared.string.BadString.{BadString}
use Rattle.scalar.specs.declared.key.BadSegment.{BadSegment}
use Rattle.scalar.specs.declared.key.Key.{Key}
use Rattle.scalar.specs.declared.key.BadKey.{BadKey}
use Rattle.scalar.specs.Stores.{stored}
use Rattle.scalar.specs.Decodes.{Decodes, Puts}
use Rattle.scalar.specs.Segments as segment_answer
use Rattle.scalar.specs.Segments.{told, written, laid, Segmented}
use Rattle.scalar.specs.Splits.{Taken, by, taken, takes, flat, bytes_of, ends_of, refusal, key_of, Splits}
use Rattle.scalar.proofs.Numbering.{number_one}
use Rattle.scalar.proofs.Splitting.{ends_size}

-- ---- contracts decide
told_one : {X : Type 0} (u v : Option Refused) (x : X) → told u x ≡ told v x → u ≡ v
told_one None None x e = refl
told_one None (Some r) x e = cc
told_one (Some r) None x e = cc
told_one (Some r) (Some u) x e = let z : number r ≡ number u = cc in ap (λ (n : Refused). Some n) (number_one r u z)

pub decode_decides : (src out out₁ out₂ : List ℕ) (r₁ r₂ : Result Decoded BadString) → Decodes src out out₁ r₁ → Decodes src out out₂ r₂ → (r₁ ≡ r₂) × (out₁ ≡ out₂)
decode_decides src out out₁ out₂ r₁ r₂ a b = (a.says ∙ sym b.says, a.left ∙ sym b.left)

pub string_decides : (src store : List ℕ) (at : ℕ) (store₁ store₂ : List ℕ) (r₁ r₂ : Result Decoded BadString)
    → Puts src store at store₁ r₁ → Puts src store at store₂ r₂ → (r₁ ≡ r₂) × (store₁ ≡ store₂)
string_decides src store at store₁ store₂ r₁ r₂ a b = (a.says ∙ sym b.says, a.left ∙ sym b.left)

same_segment : (r u : Result ℕ BadSegment) → segment_answer.refusal r ≡ segment_answer.refusal u → written r ≡ written u → r ≡ u
same_segment (Ok n) (Ok m) p q = ap (λ (k : ℕ). Ok k) q
same_segment (Ok n) (Err e) p q = cc
same_segment (Err d) (Ok m) p q = cc
same_segment (Err d) (Err e) p q = let z : d.refused ≡ e.refused = cc in same d e z q
  where
    same : (d e : BadSegment) → d.refused ≡ e.refused → d.written ≡ e.written → ◌≡◌ {A = Result ℕ BadSegment} (Err d) (Err e)
    same d e p q = rw (p, q)

same_key : (r u : Result Key BadKey) → refusal r ≡ refusal u → (key_of r).n ≡ (key_of u).n → (key_of r).used ≡ (key_of u).used → (key_of r).ends ≡ (key_of u).ends → r ≡ u
same_key (Ok j) (Ok k) p q f g = same j k q f g
  where
    same : (j k : Key) → j.n ≡ k.n → j.used ≡ k.used → j.ends ≡ k.ends → ◌≡◌ {A = Result Key BadKey} (Ok j) (Ok k)
    same j k p q r = rw (p, q, r)
same_key (Ok j) (Err e) p q f g = cc
same_key (Err d) (Ok k) p q f g = cc
same_key (Err d) (Err e) p q f g = let z : d.refused ≡ e.refused = cc in same d e z q f g
  where
    same : (d e : BadKey) → d.refused ≡ e.refused → d.taken.n ≡ e.taken.n → d.taken.used ≡ e.taken.used → d.taken.ends ≡ e.taken.ends
        → ◌≡◌ {A = Result Key BadKey} (Err d) (Err e)
    same d e p q r s = rw (p, q, r, s)

pub segment_decides : (s : List ℕ) (m : R (List ℕ)) (bytes store : List ℕ) (at : ℕ) (store₁ store₂ : List ℕ) (r₁ r₂ : Result ℕ BadSegment)
    → Segmented s m bytes store at store₁ r₁ → Segmented s m bytes store at store₂ r₂ → (r₁ ≡ r₂) × (store₁ ≡ store₂)
segment_decides s m bytes store at store₁ store₂ r₁ r₂ a b =
    let v = told_one (segment_answer.refusal r₁) (segment_answer.refusal r₂) bytes (a.says ∙ sym b.says) in
    (same_segment r₁ r₂ v (a.wrote ∙ sym b.wrote), a.left ∙ sym b.left)

pub key_decides : (limit : ℕ) (s store : List ℕ) (at : ℕ) (store₁ store₂ : List ℕ) (r₁ r₂ : Result Key BadKey)
    → Splits limit s store at store₁ r₁ → Splits limit s store at store₂ r₂ → (r₁ ≡ r₂) × (store₁ ≡ store₂)
key_decides limit s store at store₁ store₂ r₁ r₂ a b =
    let v = told_one (refusal r₁) (refusal r₂) (takes limit s).segs (a.says ∙ sym b.says) in
    (same_key r₁ r₂ v (a.count ∙ sym b.count) (a.reach ∙ sym b.reach) (a.places ∙ sym b.places), a.left ∙ sym b.left)

-- ---- what an answer says of 01's segments
fine_step : (n : ℕ) (ps : List (List ℕ)) (w : List ℕ) (ks : List (List ℕ)) (m : R (List ℕ)) (r : R (List (List ℕ)))
    → ((ls : List (List ℕ)) → r ≡ ok ls → taken n ps ≡ record { segs = ls; rest = [] })
    → ok_then m (λ k. ok_then r (λ ls. ok (k ∷ ls))) ≡ ok ks → by m w (taken n ps) ≡ record { segs = ks; rest = [] }
fine_step n ps w ks (ok k) (ok ls) ih e = let z : k ∷ ls ≡ ks = cc in rw (ih ls refl, ← z)
fine_step n ps w ks (ok k) (bad b) ih e = cc
fine_step n ps w ks (bad b) r ih e = cc

fine_taken : (n : ℕ) (ps ks : List (List ℕ)) → segments n ps ≡ ok ks → taken n ps ≡ record { segs = ks; rest = [] }
fine_taken n [] ks e = let z : ◌≡◌ {A = List (List ℕ)} [] ks = cc in rw (← z)
fine_taken zero (p ∷ ps) ks e = cc
fine_taken (suc n) (p ∷ ps) ks e = fine_step n ps (laid (trim p)) ks (segment (trim p)) (segments n ps) (fine_taken n ps) e

-- an accepted key: its segments ks are 01's, and the store holds them one after the other
pub record Accepted (limit : ℕ) (s store : List ℕ) (at : ℕ) (store' : List ℕ) (ks : List (List ℕ)) (r : Key) : Type 0 where
  pub is : keys limit s ≡ ok ks
  pub count : r.n ≡ length ks
  pub reach : r.used ≡ at + length (flat ks)
  pub places : r.ends ≡ ends_of at ks ++ zeros (16 - length ks)
  pub left : store' ≡ stored store at (flat ks)

module _ (limit : ℕ) (s store : List ℕ) (at : ℕ) (store' : List ℕ) (r : Result Key BadKey) (h : Splits limit s store at store' r) where
  pub accepted : (k : Key) → r ≡ Ok k → Accepted limit s store at store' (takes limit s).segs k
  unfolding takes keys
  accepted k e =
      let q : segments limit (cut 46 s) ≡ ok (taken limit (cut 46 s)).segs = sym (rw e at h.says) in
      let t : (taken limit (cut 46 s)).rest ≡ [] = ap (λ (x : Taken). x.rest) (fine_taken limit (cut 46 s) (taken limit (cut 46 s)).segs q) in
      let b : bytes_of (taken limit (cut 46 s)) ≡ flat (taken limit (cut 46 s)).segs = rw t (append-nil (flat (taken limit (cut 46 s)).segs)) in
      record { is = q; count = rw e at h.count; reach = rw (e, b) at h.reach; places = rw e at h.places; left = rw b at h.left }

  -- of a refused one 01 has the number
  pub key_refused : (b : BadKey) → r ≡ Err b → keys limit s ≡ bad (number b.refused)
  key_refused b e = sym (rw e at h.says)

  pub key_few : (k : Key) → r ≡ Ok k → (k.n ≤ limit) × (k.used ≤ at + length s)
  key_few k e = (rw e at h.few, rw e at h.fits)

-- ---- where each segment lies
flat_split : (ks : List (List ℕ)) (i : ℕ) → i < length ks → flat ks ≡ flat (take i ks) ++ (get_or ks i [] ++ flat (drop (suc i) ks))
flat_split [] i h = absurd (omega arith)
flat_split (k ∷ ks) zero h = refl
flat_split (k ∷ ks) (suc i) h =
    ap (λ (l : List ℕ). k ++ l) (flat_split ks i (omega arith)) ∙ sym (append_assoc k (flat (take i ks)) (get_or ks i [] ++ flat (drop (suc i) ks)))

-- ends[i] is where the first i + 1 segments end
ends_suc : (at : ℕ) (ks : List (List ℕ)) (i : ℕ) → i < length ks → get_or (ends_of at ks) i 0 ≡ at + length (flat (take (suc i) ks))
ends_suc at [] i h = absurd (omega arith)
ends_suc at (k ∷ ks) zero h = rw append-nil
ends_suc at (k ∷ ks) (suc i) h = ends_suc (at + length k) ks i (omega arith) ∙ omega (arith, length-append k (flat (take (suc i) ks)))

pub ends_at : (at : ℕ) (ks : List (List ℕ)) (i : ℕ) → i < length ks → get_or (ends_of at ks) i 0 ≡ at + length (flat (take (i + 1) ks))
ends_at at ks i h = rw add-one (ends_suc at ks i h)

-- and begins where the first i end
ends_from : (at : ℕ) (ks : List (List ℕ)) (i : ℕ) → i < length ks → get_or (ends_of at ks) i 0 ≡ at + length (flat (take i ks)) + length (get_or ks i [])
ends_from at [] i h = absurd (omega arith)
ends_from at (k ∷ ks) zero h = rw add-zero
ends_from at (k ∷ ks) (suc i) h = ends_from (at + length k) ks i (omega arith) ∙ omega (arith, length-append k (flat (take i ks)))

pub segment_at : (store : List ℕ) (at : ℕ) (ks : List (List ℕ)) (i : ℕ) → at ≤ length store → i < length ks
    → part (at + length (flat (take i ks))) (get_or (ends_of at ks) i 0) (stored store at (flat ks)) ≡ get_or ks i []
unfolding stored
segment_at store at ks i l h =
    let a : List ℕ = flat (take i ks) in
    let k : List ℕ = get_or ks i [] in
    let b : List ℕ = flat (drop (suc i) ks) in
    let d : List ℕ = drop (at + length (flat ks)) store in
    let n : length (take at store) ≡ at = length-take-le at store l in
    let z : at + length a + length k - (at + length a) ≡ length k = omega arith in
    let x : drop at (stored store at (flat ks)) ≡ flat ks ++ d = drop_at (take at store) (flat ks ++ d) at n in
    let y : flat ks ++ d ≡ a ++ (k ++ (b ++ d)) = ap (λ (f : List ℕ). f ++ d) (flat_split ks i h) ∙ simp append_assoc in
    let w : drop (at + length a) (stored store at (flat ks)) ≡ k ++ (b ++ d) =
    sym (drop-drop (length a) at (stored store at (flat ks))) ∙ ap (drop (length a)) (x ∙ y) ∙ drop_at a (k ++ (b ++ d)) (length a) refl in
    rw (ends_from at ks i h, z, w) (take_at k (b ++ d) (length k) refl)

module _ (limit : ℕ) (s store : List ℕ) (at : ℕ) (store' : List ℕ) (ks : List (List ℕ)) (r : Key) (h : Accepted limit s store at store' ks r)
    (i : ℕ) (l : i < r.n) where
  within : get_or r.ends i 0 ≡ get_or (ends_of at ks) i 0
  within = ap (λ (x : List ℕ). get_or x i 0) h.places ∙ get_or-append (ends_of at ks) (zeros (16 - length ks)) 0 i (omega (arith, ends_size at ks, h.count))

  pub key_end : get_or r.ends i 0 ≡ at + length (flat (take (i + 1) ks))
  key_end = within ∙ ends_at at ks i (omega (arith, h.count))

  pub key_segment : at ≤ length store → part (at + length (flat (take i ks))) (get_or r.ends i 0) store' ≡ get_or ks i []
  key_segment m = rw (within, h.left) (segment_at store at ks i m (omega (arith, h.count)))

-- ---- a string says no more bytes than it takes
go_fits : (st : StringByte) (n : ℕ) (a : Act) (f : StringByte → Said) → ((t : StringByte) → length (f t).bytes ≤ n) → length (by_act st a f).bytes ≤ suc n
go_fits st n End f h = omega arith
go_fits st n Hold f h = omega (arith, h AfterBackslash)
go_fits st n (Put c) f h = omega (arith, h Plain)
go_fits st n Fault f h = omega arith

pub said_fits : (st : StringByte) (s : List ℕ) → length (decode st s).bytes ≤ length s
said_fits st [] = omega arith
said_fits st (b ∷ s) = go_fits st (length s) (act_of st b) (λ t. decode t s) (λ t. said_fits t s)
