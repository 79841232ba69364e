-- One earlier use of a package stands for all: laws for what is left of an entry, and for the loops over it.
use Prim.Native.Nat.{ℕ, zero, suc, ◌+◌, ◌-◌, ◌≤◌, ◌<◌}
use mathlib.Core.Bool.{Bool, true, false, not}
use mathlib.Core.List.{List, [], ◌∷◌}
use mathlib.Core.Option.{Option, none, some}
use mathlib.Core.Path.{◌≡◌, refl, sym, ◌∙◌}
use native.Mathlib.Omega.{arith}
use native.Mathlib.Numerals.{add-one}
use borrow.Author.Tests.{lt-ltb, le-ltb, ltb-true, ltb-false}
use Rattle.std.proofs.Common as places
use Rattle.std.proofs.Common.{None, Some}
use Rattle.layout.specs.Parts.{placed}
use lib.Dec.{ltb}
use lib.ListN.{length, get_or, take}
use lib.Seq.{slice, slice-cons, slice_empty}
use Rattle.meaning.specs.Base.{pick, same}
use Rattle.meaning.specs.Rules.{twice, same_all}
use Rattle.laws.specs.Cases.{on, never}
use Rattle.laws.specs.Order.{same_eq, eq_same}
use Rattle.parse.specs.Meant.{feature_list}
use Rattle.turns.specs.Marks.{any_of, first_hit}
use Rattle.turns.specs.Hits.{Later, later_start, later_on, later_end, later_head}
use Rattle.schema.specs.declared.spot.Spot.{Spot}
use Rattle.schema.specs.Spots.{no_spot, spotted, list_at}
use Rattle.validate.specs.declared.uses.Use.{Use}
use Rattle.validate.specs.declared.uses.Pair.{Pair}
use Rattle.validate.specs.Clashes.{own_use, pbp_use, differ, use_differs, clash, uses_package, share_package, package_beyond, uses_beyond}
use Rattle.validate.specs.Gathered.{blank}

-- ---- either of two

first_false : (x y : Bool) → pick x true y ≡ false → x ≡ false
first_false x y e = on x (λ f. never {b = true} refl (rw f at e)) (λ f. f)

second_false : (x y : Bool) → pick x true y ≡ false → y ≡ false
second_false x y e = on x (λ f. never {b = true} refl (rw f at e)) (λ f. rw f at e)

not_true : (x : Bool) → not x ≡ true → x ≡ false
not_true x e = on x (λ f. never {b = false} (rw f at e) refl) (λ f. f)

-- ---- feature sets are one or differ

all_eq : (fs gs : List (List ℕ)) → same_all fs gs ≡ true → fs ≡ gs
all_eq [] [] e = refl
all_eq [] (g ∷ gs) e = never e refl
all_eq (f ∷ fs) [] e = never e refl
all_eq (f ∷ fs) (g ∷ gs) e =
    on (same f g)
    (λ h. let a : f ≡ g = same_eq f g h in let b : fs ≡ gs = all_eq fs gs (rw h at e) in cc)
    (λ h. never {b = false} (rw h at e) refl)

all_self : (fs : List (List ℕ)) → same_all fs fs ≡ true
all_self [] = refl
all_self (f ∷ fs) = rw (eq_same f f refl) (all_self fs)

abbrev apart : Option (List ℕ) → List (List ℕ) → Option (List ℕ) → List (List ℕ) → Bool
apart p f q g = pick (twice p q) (pick (same_all f g) false true) false

apart_not : (s : Bool) → pick s false true ≡ false → s ≡ true
apart_not s e = on s (λ h. h) (λ h. never {b = true} refl (rw h at e))

-- a use that agrees with another's agrees with all that agree with it
apart_through : (p q r : Option (List ℕ)) (f g h : List (List ℕ)) → twice p q ≡ true → apart p f q g ≡ false → apart r h q g ≡ false → apart p f r h ≡ false
apart_through none q r f g h t d e = never {b = false} t refl
apart_through (some p) none r f g h t d e = never {b = false} t refl
apart_through (some p) (some q) none f g h t d e = refl
apart_through (some p) (some q) (some r) f g h t d e =
    on (same p r)
    (λ s.
    let a : same r q ≡ true = eq_same r q (sym (same_eq p r s) ∙ same_eq p q t) in
    let x : f ≡ g = all_eq f g (apart_not (same_all f g) (rw t at d)) in
    let y : h ≡ g = all_eq h g (apart_not (same_all h g) (rw a at e)) in
    rw (s, x, y, all_self g))
    (λ s. rw s)

-- ---- entries

module _ (room store : List ℕ) (made : ℕ) where
  abbrev hit : Pair → Pair → Bool
  hit = clash room store made

  -- a use differs from none of an entry's uses
  record Agrees (u : Use) (b : Pair) : Type 0 where
    one : differ room store made u (own_use b) ≡ false
    two : differ room store made u (pbp_use b) ≡ false

  record Both (a b : Pair) : Type 0 where
    one : Agrees (own_use a) b
    two : Agrees (pbp_use a) b

  both : (a b : Pair) → hit a b ≡ false → Both a b
  unfolding clash use_differs
  both a b e =
      let w : Bool = differ room store made (own_use a) (own_use b) in
      let x : Bool = differ room store made (own_use a) (pbp_use b) in
      let y : Bool = differ room store made (pbp_use a) (own_use b) in
      let z : Bool = differ room store made (pbp_use a) (pbp_use b) in
      let e1 : pick w true x ≡ false = first_false (pick w true x) (pick y true z) e in
      let e2 : pick y true z ≡ false = second_false (pick w true x) (pick y true z) e in
      record {
        one = record { one = first_false w x e1; two = second_false w x e1 };
        two = record { one = first_false y z e2; two = second_false y z e2 };
      }

  not_used : (u : Use) (b : Pair) → uses_package store u.«package» b ≡ false → Agrees u b
  unfolding uses_package differ
  not_used u b e =
      let x : Bool = twice (spotted store u.«package») (spotted store b.«package») in
      let y : Bool = twice (spotted store u.«package») (spotted store b.pbp_package) in
      record { one = rw (first_false x y e); two = rw (second_false x y e) }

  pub not_shared : (a b : Pair) → share_package store a b ≡ false → hit a b ≡ false
  unfolding share_package clash use_differs
  not_shared a b e =
      let v : Bool = uses_package store a.«package» b in
      let w : Bool = uses_package store a.pbp_package b in
      let x = not_used (own_use a) b (first_false v w e) in
      let y = not_used (pbp_use a) b (second_false v w e) in
      rw (x.one, x.two, y.one, y.two)

  absent_agrees : (f : Spot) (v : Use) → false ≡ differ room store made (record { «package» = no_spot; features = f }) v
  unfolding differ
  absent_agrees f v = refl

  -- a use against one that agrees with an entry
  module _ (b : Pair) (u : Use) (x : Agrees u b) (v : Use) (y : Agrees v b) where
    through : (w : Use) → twice (spotted store u.«package») (spotted store w.«package») ≡ true → differ room store made u w ≡ false → differ room store made v w ≡ false
        → differ room store made u v ≡ false
    unfolding differ
    through w =
        apart_through (spotted store u.«package») (spotted store w.«package») (spotted store v.«package»)
        (feature_list room store made (list_at u.features))
        (feature_list room store made (list_at w.features))
        (feature_list room store made (list_at v.features))

    used_agrees : uses_package store u.«package» b ≡ true → differ room store made u v ≡ false
    unfolding uses_package
    used_agrees e =
        on (twice (spotted store u.«package») (spotted store b.«package»))
        (λ t. through (own_use b) t x.one y.one)
        (λ t. through (pbp_use b) (rw t at e) x.two y.two)

    beyond_differ : differ room store made u v ≡ differ room store made (record { «package» = package_beyond store u.«package» b; features = u.features }) v
    unfolding package_beyond
    beyond_differ = on (uses_package store u.«package» b) (λ e. rw e (used_agrees e ∙ absent_agrees u.features v)) (λ e. rw e)

  -- what an entry agrees with need not be asked of those that agree with it too
  pub beyond_clash : (a b c : Pair) → hit a b ≡ false → hit c b ≡ false → hit a c ≡ hit (uses_beyond store a b) c
  unfolding clash use_differs uses_beyond
  beyond_clash a b c e f =
      let x = both a b e in
      let y = both c b f in
      rw (
        beyond_differ b (own_use a) x.one (own_use c) y.one,
        beyond_differ b (own_use a) x.one (pbp_use c) y.two,
        beyond_differ b (pbp_use a) x.two (own_use c) y.one,
        beyond_differ b (pbp_use a) x.two (pbp_use c) y.two,
      )

-- ---- a part of a list, place by place

module _ {X : Type 0} (xs : List X) (d : X) (i : ℕ) (long : i ≤ length xs) where
  any_alike : (f g : X → Bool) (m j : ℕ) → j + m ≡ i → ((k : ℕ) → j ≤ k → k < i → f (get_or xs k d) ≡ g (get_or xs k d)) → any_of f (slice j i xs) ≡ any_of g (slice j i xs)
  any_alike f g zero j e h = let a : j ≡ i = omega (arith, e) in rw (a, slice_empty i xs)
  any_alike f g (suc m) j e h =
      rw (slice-cons j i xs d (omega (arith, e)) long, h j (omega arith) (omega (arith, e)), any_alike f g m (suc j) (omega (arith, e)) (λ k l u. h k (omega (arith, l)) u))

  any_none : (f : X → Bool) (m j : ℕ) → j + m ≡ i → any_of f (slice j i xs) ≡ false → (k : ℕ) → j ≤ k → k < i → f (get_or xs k d) ≡ false
  any_none f zero j e h k l u = absurd (omega (arith, e, l, u))
  any_none f (suc m) j e h k l u =
      let a = rw (slice-cons j i xs d (omega (arith, e)) long) at h in
      let t : Bool = any_of f (slice (suc j) i xs) in
      by_place (any_none f m (suc j) (omega (arith, e)) (second_false (f (get_or xs j d)) t a) k) (first_false (f (get_or xs j d)) t a)
    where
      by_place : (suc j ≤ k → k < i → f (get_or xs k d) ≡ false) → f (get_or xs j d) ≡ false → f (get_or xs k d) ≡ false
      by_place next here = on (ltb j k) (λ t. next (omega (arith, ltb-true j k t)) u) (λ t. let s : k ≡ j = omega (arith, l, ltb-false j k t) in rw s here)

-- ---- the loops

-- no entry before number i clashes with an earlier one
pub record Before (room store : List ℕ) (made : ℕ) (xs : List Pair) (i : ℕ) : Type 0 where
  pub none : (j k : ℕ) → j < k → k < i → hit room store made (get_or xs k blank) (get_or xs j blank) ≡ false

pub before_start : (room store : List ℕ) (made : ℕ) (xs : List Pair) → Before room store made xs 0
before_start room store made xs = record { none = λ j k m u. absurd (omega (arith, u)) }

module _ (room store : List ℕ) (made : ℕ) (xs : List Pair) where
  pub record Agreed (i : ℕ) : Type 0 where
    pub later : Later (hit room store made) xs i
    pub before : Before room store made xs i

  -- what is left of an entry clashes where the entry does, from number j on
  pub record Rest (x rest : Pair) (i j : ℕ) : Type 0 where
    pub high : j ≤ i
    pub left_any : any_of (hit room store made x) (take i xs) ≡ any_of (hit room store made rest) (slice j i xs)

  abbrev pub first_clash : places.Option ℕ
  first_clash = placed (length xs) (first_hit (clash room store made) [] xs)

  pub agreed_start : Agreed 0
  agreed_start = record { later = later_start (hit room store made) xs; before = before_start room store made xs }

  module _ (i : ℕ) (h : Agreed i) where
    pub agreed_end : length xs ≤ i → None ≡ first_clash
    agreed_end l =
        rw (later_end (hit room store made) xs i h.later l, le-ltb (length xs) (length xs) (omega arith))

    pub rest_start : (x : Pair) → Rest x x i 0
    rest_start x = record { high = omega arith; left_any = refl }

    module _ (rest : Pair) (j : ℕ) (s : Rest (get_or xs i blank) rest i j) where
      pub agreed_on : i < length xs → i ≤ j → Agreed (i + 1)
      agreed_on l m =
          let e : j ≡ i = omega (arith, s.high) in
          let long : i ≤ length xs = omega arith in
          let a : any_of (hit room store made (get_or xs i blank)) (take i xs) ≡ false = rw (e, slice_empty i xs) at s.left_any in
          record {
            later = later_on (hit room store made) xs i h.later blank l a;
            before =
                record {
                  none = λ p k u v.
                      on (ltb k i)
                      (λ t. h.before.none p k u (ltb-true k i t))
                      (λ t.
                      let q : k ≡ i = omega (arith, v, ltb-false k i t) in
                      rw q (any_none xs blank i long (hit room store made (get_or xs i blank)) i 0 (omega arith) a p (omega arith) (omega (arith, u, q))));
                };
          }

      module _ (l : i < length xs) (m : j < i) where
        rest_head : any_of (hit room store made (get_or xs i blank)) (take i xs)
            ≡ pick (hit room store made rest (get_or xs j blank)) true (any_of (hit room store made rest) (slice (j + 1) i xs))
        rest_head =
            let a : slice j i xs ≡ get_or xs j blank ∷ slice (suc j) i xs = slice-cons j i xs blank m (omega arith) in
            rw add-one (rw a at s.left_any)

        pub rest_not : (t : Bool) → t ≡ share_package store rest (get_or xs j blank) → not t ≡ true → Rest (get_or xs i blank) rest i (j + 1)
        rest_not t e f =
            let z : hit room store made rest (get_or xs j blank) ≡ false = not_shared room store made rest (get_or xs j blank) (sym e ∙ not_true t f) in
            record { high = omega arith; left_any = rw z at rest_head }

        module _ (r : Bool) (e : r ≡ clash room store made rest (get_or xs j blank)) where
          pub rest_hit : r ≡ true → Some i ≡ first_clash
          rest_hit f =
              let a : any_of (hit room store made (get_or xs i blank)) (take i xs) ≡ true = rw (← e, f) at rest_head in
              let b = rw a at (later_head (hit room store made) xs i h.later blank l) in
              let k : first_hit (hit room store made) [] xs ≡ i = omega (arith, b) in
              rw (k, lt-ltb i (length xs) l)

          pub rest_on : (rest' : Pair) → r ≡ false → rest' ≡ uses_beyond store rest (get_or xs j blank) → Rest (get_or xs i blank) rest' i (j + 1)
          rest_on rest' f g =
              let z : hit room store made rest (get_or xs j blank) ≡ false = sym e ∙ f in
              let long : i ≤ length xs = omega arith in
              let y = any_alike xs blank i long (hit room store made rest) (hit room store made (uses_beyond store rest (get_or xs j blank))) (i - (j + 1)) (j + 1) (omega (arith, m))
              (λ k u v. beyond_clash room store made rest (get_or xs j blank) (get_or xs k blank) z (h.before.none j k (omega (arith, u)) v)) in
              record { high = omega arith; left_any = rw g ((rw z at rest_head) ∙ y) }
