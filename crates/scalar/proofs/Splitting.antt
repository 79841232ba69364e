-- The segments of a key, one after the other: what the loop keeps, and one law for each way on and out.
use Prim.Native.Nat.{ℕ, suc, ◌+◌, ◌-◌, ◌^◌, ◌≤◌, ◌<◌}
use mathlib.Core.List.{List, [], ◌∷◌, ◌++◌, append_assoc, append-nil}
use mathlib.Core.Path.{◌≡◌, refl, sym, ap, ◌∙◌}
use native.Mathlib.Omega.{arith}
use borrow.Author.Tests.{ltb-true, ltb-false}
use native.Mathlib.Nat.{add-zero, sub-zero}
use native.Mathlib.Numerals.{add-one}
use mir.Syntax.{w64}
use mir.Val.{Fits}
use lib.Dec.{eqb, ltb}
use lib.ListN.{length, take, drop, set, length-drop, length-append}
use lib.Seq.{length-take-le, set_at, take_all}
use Rattle.std.specs.Prelude.{Option, Some, None, Result, Ok, Err}
use Rattle.meaning.specs.declared.Refused.{Refused}
use Rattle.meaning.specs.declared.Refused.TheVariants.{TooManySegments}
use Rattle.meaning.specs.Numbered.{number}
use Rattle.meaning.specs.Base.{zeros, before, on_first, cut}
use Rattle.meaning.specs.Refusal.{R, ok, bad, ok_then}
use Rattle.meaning.specs.Space.{trim}
use Rattle.meaning.specs.Keys.{segment, segments, keys}
use Rattle.laws.specs.Cases.{on}
use Rattle.laws.specs.Stored.{stored_nil, stored_then, length_stored}
use Rattle.slices.specs.Found.{Found}
use Rattle.text.proofs.Cuts.{cut_there, cut_none}
use Rattle.scalar.specs.declared.key.BadSegment.{BadSegment}
use Rattle.scalar.specs.declared.key.Key.{Key}
use Rattle.scalar.specs.declared.key.BadKey.{BadKey}
use Rattle.scalar.specs.Stores.{stored, Room}
use Rattle.scalar.specs.Segments.{told, written, laid, Segmented}
use Rattle.scalar.specs.Splits.{Taken, none, taken, takes, flat, bytes_of, ends_of, refusal, key_of, Asked, Splits}

-- ---- bytes laid after bytes
stored_stored : (store : List ℕ) (at : ℕ) (a b : List ℕ) → at ≤ length store → stored (stored store at a) (at + length a) b ≡ stored store at (a ++ b)
stored_stored store at a b h = stored_then store at a b (at + length a) h refl

flat_snoc : (ks : List (List ℕ)) (k : List ℕ) → flat (ks ++ (k ∷ [])) ≡ flat ks ++ k
flat_snoc [] k = append-nil k
flat_snoc (j ∷ ks) k = rw (flat_snoc ks k) (sym (append_assoc j (flat ks) k))

-- ---- where segments end
pub ends_size : (at : ℕ) (ks : List (List ℕ)) → length (ends_of at ks) ≡ length ks
ends_size at [] = refl
ends_size at (k ∷ ks) = ap suc (ends_size (at + length k) ks)

ends_snoc : (at : ℕ) (ks : List (List ℕ)) (k : List ℕ) → ends_of at (ks ++ (k ∷ [])) ≡ ends_of at ks ++ ((at + length (flat ks) + length k) ∷ [])
ends_snoc at [] k = rw add-zero
ends_snoc at (j ∷ ks) k =
    let e : at + length j + length (flat ks) ≡ at + length (j ++ flat ks) = omega (arith, length-append j (flat ks)) in
    rw (ends_snoc (at + length j) ks k, e)

-- ---- segments taken before others
abbrev pub onto : List (List ℕ) → R (List (List ℕ)) → R (List (List ℕ))
onto ks r = ok_then r (λ ls. ok (ks ++ ls))

abbrev pub front : List (List ℕ) → Taken → Taken
front ks t = record { segs = ks ++ t.segs; rest = t.rest }

onto_nil : (r : R (List (List ℕ))) → r ≡ onto [] r
onto_nil (ok x) = refl
onto_nil (bad n) = refl

onto_one : (ks : List (List ℕ)) (k : List ℕ) (r : R (List (List ℕ))) → onto ks (ok_then r (λ ls. ok (k ∷ ls))) ≡ onto (ks ++ (k ∷ [])) r
onto_one ks k (ok x) = rw append_assoc
onto_one ks k (bad n) = refl

onto_told : (ks ls : List (List ℕ)) (v : Option Refused) → onto ks (told v ls) ≡ told v (ks ++ ls)
onto_told ks ls None = refl
onto_told ks ls (Some r) = refl

-- of the parts all, those before ps are taken as the segments ks
pub record Before (limit : ℕ) (all : List (List ℕ)) (at₀ : ℕ) (store₀ : List ℕ) (ps : List (List ℕ)) (store ends : List ℕ) (n at : ℕ) : Type 0 where
  pub few : n ≤ limit
  pub top : limit ≤ 16
  pub room : at₀ ≤ length store₀
  pub ks : List (List ℕ)
  pub size : length ks ≡ n
  pub meant : segments limit all ≡ onto ks (segments (limit - n) ps)
  pub took : taken limit all ≡ front ks (taken (limit - n) ps)
  pub here : at ≡ at₀ + length (flat ks)
  pub row : ends ≡ ends_of at₀ ks ++ zeros (16 - n)
  pub left : store ≡ stored store₀ at₀ (flat ks)

-- what a key leaves, by what is taken after ks
record Outcome (limit : ℕ) (all : List (List ℕ)) (at₀ : ℕ) (store₀ store' : List ℕ) (v : Option Refused) (k : Key) : Type 0 where
  says : told v (taken limit all).segs ≡ segments limit all
  count : k.n ≡ length (taken limit all).segs
  reach : k.used ≡ at₀ + length (bytes_of (taken limit all))
  places : k.ends ≡ ends_of at₀ (taken limit all).segs ++ zeros (16 - length (taken limit all).segs)
  left : store' ≡ stored store₀ at₀ (bytes_of (taken limit all))

module _ (limit : ℕ) (all : List (List ℕ)) (at₀ : ℕ) (store₀ : List ℕ) (ps : List (List ℕ)) (store ends : List ℕ) (n at : ℕ)
    (a : Before limit all at₀ store₀ ps store ends n at) where
  -- nothing more is taken, and w is laid
  stops : (v : Option Refused) (w store' : List ℕ) (u : ℕ) → segments (limit - n) ps ≡ told v [] → taken (limit - n) ps ≡ record { segs = []; rest = w }
      → u ≡ at + length w → store' ≡ stored store at w
      → Outcome limit all at₀ store₀ store' v (record { n = n; used = u; ends = ends })
  stops v w store' u e f g h =
      let t : taken limit all ≡ record { segs = a.ks; rest = w } = a.took ∙ ap (front a.ks) f ∙ rw append-nil in
      let m : segments limit all ≡ told v a.ks = a.meant ∙ ap (onto a.ks) e ∙ onto_told a.ks [] v ∙ rw append-nil in
      let x : stored store at w ≡ stored store₀ at₀ (flat a.ks ++ w) =
      rw (a.left, a.here) (stored_stored store₀ at₀ (flat a.ks) w a.room) in
      record {
        says = rw (t, m);
        count = rw t (sym a.size);
        reach = rw t (omega (arith, a.here, length-append (flat a.ks) w));
        places = rw (t, a.size) a.row;
        left = rw t (h ∙ x);
      }

none_left : (limit : ℕ) (all : List (List ℕ)) (at₀ : ℕ) (store₀ : List ℕ) (store ends : List ℕ) (n at : ℕ)
    → Before limit all at₀ store₀ [] store ends n at
    → Outcome limit all at₀ store₀ store None (record { n = n; used = at; ends = ends })
none_left limit all at₀ store₀ store ends n at a =
    stops limit all at₀ store₀ [] store ends n at a None [] store at refl refl (omega arith) (sym (stored_nil store at))

taken_zero : (ps : List (List ℕ)) → taken 0 ps ≡ none
taken_zero [] = refl
taken_zero (p ∷ ps) = refl

too_many : (limit : ℕ) (all : List (List ℕ)) (at₀ : ℕ) (store₀ : List ℕ) (ps : List (List ℕ)) (store ends : List ℕ) (n at : ℕ)
    → Before limit all at₀ store₀ ps store ends n at → limit ≤ n → segments 0 ps ≡ bad 15
    → Outcome limit all at₀ store₀ store (Some TooManySegments) (record { n = n; used = at; ends = ends })
too_many limit all at₀ store₀ ps store ends n at a h e =
    let z : limit - n ≡ 0 = omega arith in
    stops limit all at₀ store₀ ps store ends n at a (Some TooManySegments) [] store at (rw z e) (rw z (taken_zero ps)) (omega arith) (sym (stored_nil store at))

module _ (limit : ℕ) (all : List (List ℕ)) (at₀ : ℕ) (store₀ : List ℕ) (p : List ℕ) (ps : List (List ℕ)) (store ends : List ℕ) (n at : ℕ)
    (a : Before limit all at₀ store₀ (p ∷ ps) store ends n at) where
  module _ (h : n < limit) (s store' : List ℕ) (r : Result ℕ BadSegment) (g : Segmented s (segment (trim p)) (laid (trim p)) store at store' r) where
    one_left : limit - n ≡ suc (limit - (n + 1))
    one_left = omega arith

    refused : (e : BadSegment) → r ≡ Err e
        → Outcome limit all at₀ store₀ store' (Some e.refused) (record { n = n; used = at + e.written; ends = ends })
    refused e q =
        let q' : segment (trim p) ≡ bad (number e.refused) = sym (rw q at g.says) in
        let w : e.written ≡ length (laid (trim p)) = rw q at g.wrote in
        stops limit all at₀ store₀ (p ∷ ps) store ends n at a (Some e.refused) (laid (trim p)) store' (at + e.written)
        (rw (one_left, q')) (rw (one_left, q')) (rw w) g.left

    advance : (w : ℕ) → r ≡ Ok w → Before limit all at₀ store₀ ps store' (set ends n (at + w)) (n + 1) (at + w)
    advance written e =
        let k : List ℕ = laid (trim p) in
        let q : segment (trim p) ≡ ok k = sym (rw e at g.says) in
        let wrote : written ≡ length k = rw e at g.wrote in
        let z : 16 - n ≡ suc (16 - (n + 1)) = omega (arith, a.top) in
        let l : length (ends_of at₀ a.ks) ≡ n = ends_size at₀ a.ks ∙ a.size in
        let w : at + written ≡ at₀ + length (flat a.ks) + length k = omega (arith, a.here, wrote) in
        let b : length (flat a.ks ++ k) ≡ length (flat a.ks) + length k = length-append (flat a.ks) k in
        let m : segments (limit - n) (p ∷ ps) ≡ ok_then (segments (limit - (n + 1)) ps) (λ ks. ok (k ∷ ks)) = rw (one_left, q) in
        let t : taken (limit - n) (p ∷ ps) ≡ record { segs = k ∷ (taken (limit - (n + 1)) ps).segs; rest = (taken (limit - (n + 1)) ps).rest } = rw (one_left, q) in
        record {
          few = omega arith;
          top = a.top;
          room = a.room;
          ks = a.ks ++ (k ∷ []);
          size = length-append a.ks (k ∷ []) ∙ omega (arith, a.size);
          meant = a.meant ∙ ap (onto a.ks) m ∙ onto_one a.ks k (segments (limit - (n + 1)) ps);
          took = a.took ∙ ap (front a.ks) t ∙ simp append_assoc;
          here = rw (flat_snoc a.ks k) (omega (arith, w, b));
          row =
              ap (λ (x : List ℕ). set x n (at + written)) (a.row ∙ ap (λ (y : ℕ). ends_of at₀ a.ks ++ zeros y) z)
              ∙ set_at (ends_of at₀ a.ks) 0 (zeros (16 - (n + 1))) (at + written) n l
              ∙ rw (ends_snoc at₀ a.ks k, w) (sym (append_assoc (ends_of at₀ a.ks) ((at₀ + length (flat a.ks) + length k) ∷ []) (zeros (16 - (n + 1)))));
          left = g.left ∙ rw (a.left, a.here, flat_snoc a.ks k) (stored_stored store₀ at₀ (flat a.ks) k a.room);
        }

-- ---- the loop: the rest of s is still to be split
pub record Splitting (s store₀ : List ℕ) (at₀ limit : ℕ) (store : List ℕ) (k : Key) (n : ℕ) (rest : List ℕ) : Type 0 where
  pub numbered : k.n ≡ n
  pub low : k.used + length rest ≤ at₀ + length s
  pub fits : at₀ + length s ≤ length store₀
  pub long : length store ≡ length store₀
  pub state : Before limit (cut 46 s) at₀ store₀ (cut 46 rest) store k.ends k.n k.used

pub split_start : (s store : List ℕ) (at limit : ℕ) → Asked limit s store at
    → Splitting s store at limit store (record { n = 0; used = at; ends = zeros 16 }) 0 s
split_start s store at limit h = record {
  numbered = refl;
  low = omega arith;
  fits = h.room;
  long = refl;
  state = record {
    few = omega arith;
    top = h.top;
    room = omega (arith, h.room);
    ks = [];
    size = refl;
    meant = rw (sub-zero limit) (onto_nil (segments limit (cut 46 s)));
    took = rw (sub-zero limit);
    here = omega arith;
    row = refl;
    left = sym (stored_nil store at);
  };
}

split_out : (limit : ℕ) (s store : List ℕ) (at : ℕ) (store' : List ℕ) (r : Result Key BadKey) → (key_of r).n ≤ limit → (key_of r).used ≤ at + length s
    → Outcome limit (cut 46 s) at store store' (refusal r) (key_of r) → Splits limit s store at store' r
unfolding takes keys
split_out limit s store at store' r h f o =
    record { says = o.says; count = o.count; reach = o.reach; places = o.places; left = o.left; few = h; fits = f }

-- there is always a part left
segments_zero : (x : List ℕ) → segments 0 (cut 46 x) ≡ bad 15
segments_zero [] = refl
segments_zero (b ∷ x) = on (eqb b 46) (λ e. rw e) (λ e. rw e (go (cut 46 x)))
  where
    go : (ls : List (List ℕ)) → segments 0 (on_first b ls) ≡ bad 15
    go [] = refl
    go (l ∷ ls) = refl

module _ (s store₀ : List ℕ) (at₀ limit : ℕ) (store : List ℕ) (k : Key) (n : ℕ) (rest : List ℕ) (a : Splitting s store₀ at₀ limit store k n rest) where
  pub split_over : limit ≤ n → Splits limit s store₀ at₀ store (Err (record { refused = TooManySegments; taken = k }))
  split_over h =
      split_out limit s store₀ at₀ store (Err (record { refused = TooManySegments; taken = k })) a.state.few (omega (arith, a.low))
      (too_many limit (cut 46 s) at₀ store₀ (cut 46 rest) store k.ends k.n k.used a.state (omega (arith, a.numbered)) (segments_zero rest))

  pub part_room : (m : ℕ) → m ≤ length rest → Room (take m rest) store k.used
  part_room m h = record { room = omega (arith, length-take-le m rest h, a.low, a.fits, a.long) }

  module _ (h : n < limit) (m : ℕ) (f : Found 46 rest m) (store' : List ℕ) (r : Result ℕ BadSegment)
      (g : Segmented (take m rest) (segment (trim (take m rest))) (laid (trim (take m rest))) store k.used store' r) where
    part_size : length (take m rest) ≡ m
    part_size = length-take-le m rest f.fits

    grown : k.used + written r + (length rest - m) ≤ at₀ + length s
    grown = omega (arith, g.fits, part_size, a.low, f.fits)

    pub used_within : (w : ℕ) → written r ≡ w → length store₀ < 2 ^ 64 → Fits w64 (k.used + w)
    used_within w e l = record { fits = omega (arith, grown, a.fits) }

    pub place_left : n < 16
    place_left = omega (arith, a.state.top)

    same_size : length store' ≡ length store₀
    same_size =
        ap length g.left
        ∙ length_stored store k.used (laid (trim (take m rest))) (omega (arith, g.wrote, grown, a.fits, a.long)) ∙ a.long

    -- the parts are this one and those after its dot, or this one alone
    there : m < length rest → cut 46 rest ≡ take m rest ∷ cut 46 (drop (m + 1) rest)
    there l =
        let b : before 46 rest < length rest = omega (arith, f.is) in
        cut_there 46 rest b ∙ rw (← f.is, ← (add-one m))

    last : length rest ≤ m → cut 46 rest ≡ take m rest ∷ []
    last l =
        let b : length rest ≤ before 46 rest = omega (arith, f.is) in
        cut_none 46 rest b ∙ rw (take_all m rest l)

    more : k.n < limit
    more = omega (arith, a.numbered)

    pub split_refused : (e : BadSegment) → r ≡ Err e
        → Splits limit s store₀ at₀ store' (Err (record { refused = e.refused; taken = record { n = k.n; used = k.used + e.written; ends = k.ends } }))
    split_refused e q =
        let w : written r ≡ e.written = rw q in
        split_out limit s store₀ at₀ store' (Err (record { refused = e.refused; taken = record { n = k.n; used = k.used + e.written; ends = k.ends } }))
        a.state.few (omega (arith, grown, w))
        (on (ltb m (length rest))
        (λ l.
        let b : Before limit (cut 46 s) at₀ store₀ (take m rest ∷ cut 46 (drop (m + 1) rest)) store k.ends k.n k.used =
        rw (there (ltb-true m (length rest) l)) at a.state in
        refused limit (cut 46 s) at₀ store₀ (take m rest) (cut 46 (drop (m + 1) rest)) store k.ends k.n k.used b more (take m rest) store' r g e q)
        (λ l.
        let b : Before limit (cut 46 s) at₀ store₀ (take m rest ∷ []) store k.ends k.n k.used = rw (last (ltb-false m (length rest) l)) at a.state in
        refused limit (cut 46 s) at₀ store₀ (take m rest) [] store k.ends k.n k.used b more (take m rest) store' r g e q))

    module _ (w : ℕ) (q : r ≡ Ok w) where
      pub split_last : length rest ≤ m → Splits limit s store₀ at₀ store' (Ok (record { n = n + 1; used = k.used + w; ends = set k.ends n (k.used + w) }))
      split_last l =
          let z : written r ≡ w = rw q in
          let b : Before limit (cut 46 s) at₀ store₀ (take m rest ∷ []) store k.ends k.n k.used = rw (last l) at a.state in
          rw (← a.numbered)
          (split_out limit s store₀ at₀ store' (Ok (record { n = k.n + 1; used = k.used + w; ends = set k.ends k.n (k.used + w) }))
          (omega (arith, more)) (omega (arith, grown, z))
          (none_left limit (cut 46 s) at₀ store₀ store' (set k.ends k.n (k.used + w)) (k.n + 1) (k.used + w)
          (advance limit (cut 46 s) at₀ store₀ (take m rest) [] store k.ends k.n k.used b more (take m rest) store' r g w q)))

      pub split_on : m < length rest
          → Splitting s store₀ at₀ limit store' (record { n = n + 1; used = k.used + w; ends = set k.ends n (k.used + w) }) (n + 1) (drop (m + 1) rest)
      split_on l =
          let z : written r ≡ w = rw q in
          let b : Before limit (cut 46 s) at₀ store₀ (take m rest ∷ cut 46 (drop (m + 1) rest)) store k.ends k.n k.used = rw (there l) at a.state in
          rw (← a.numbered) (record {
            numbered = refl;
            low = omega (arith, grown, z, length-drop (m + 1) rest);
            fits = a.fits;
            long = same_size;
            state =
                advance limit (cut 46 s) at₀ store₀ (take m rest) (cut 46 (drop (m + 1) rest)) store k.ends k.n k.used b more
                (take m rest) store' r g w q;
          })
