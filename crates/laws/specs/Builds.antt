-- Builds of a plan: each package once, by its first use; and what components want.
use Rattle.std.specs.Prelude.{ℕ, zero, suc, ◌+◌, ◌*◌, ◌≤◌, ◌<◌, true, false, List, [], ◌∷◌, ◌++◌, map, ◌⊎◌, ◌≡◌, refl, length}
use Rattle.std.proofs.Common.{inl, inr, sym, ap, ◌∙◌, subst, arith, length-append}
use Rattle.std.proofs.Math.Option.{Option, none, some}
use Rattle.meaning.specs.Base.{pick, nil?, same}
use Rattle.meaning.specs.Schema.{Component, Application}
use Rattle.meaning.specs.Verdict.{among, with_last}
use Rattle.meaning.specs.Rules.{Use, use?, twice, uses_of, all_uses}
use Rattle.meaning.specs.Plan.{Build, built?, wanted, wanted_by, first_uses, ahead, composition, in_order, builds_of, component_of}
use Rattle.laws.specs.Cases.{on, never}
use Rattle.laws.specs.Order.{same_eq, eq_same}
use Rattle.laws.specs.Places.{At, In, in_more, in_left, in_right, in_split, map_at, none_some, some_one}

-- ---- names after others

among_after : (x y : List ℕ) (ys : List (List ℕ)) → among x (with_last ys y) ≡ false → (among x ys ≡ false) × (same x y ≡ false)
among_after x y [] e = (refl, on (same x y) (λ t. never {b = true} refl (rw t at e)) (λ t. t))
among_after x y (z ∷ ys) e =
    on (same x z)
    (λ t. never {b = true} refl (rw t at e))
    (λ t. let r = among_after x y ys (rw t at e) in (rw t r.0, r.1))

after_among : (x y : List ℕ) (ys : List (List ℕ)) → among x ys ≡ false → same x y ≡ false → among x (with_last ys y) ≡ false
after_among x y [] e g = rw g
after_among x y (z ∷ ys) e g = on (same x z) (λ t. never {b = true} refl (rw t at e)) (λ t. rw t (after_among x y ys (rw t at e) g))

-- ---- first uses

-- d stands in bs, and none of its package before it
pub record First (bs : List Build) (d : Build) : Type 0 where
  pub place : ℕ
  pub here : At bs place d
  pub first : (k : ℕ) (e : Build) → k < place → At bs k e → e.pack ≡ d.pack → ⊥

module _ (earlier : List (List ℕ)) (b : Build) (bs : List Build) where
  -- the first of these is passed over
  later : (d : Build) → First bs d × (among d.pack (with_last earlier b.pack) ≡ false) → First (b ∷ bs) d × (among d.pack earlier ≡ false)
  later d h =
      let r = among_after d.pack b.pack earlier h.1 in
      (record { place = suc h.0.place; here = h.0.here; first = go r.1 }, r.0)
    where
      go : same d.pack b.pack ≡ false → (k : ℕ) (e : Build) → k < suc h.0.place → At (b ∷ bs) k e → e.pack ≡ d.pack → ⊥
      go n zero e l g p = never (eq_same d.pack b.pack (sym p ∙ ap (λ (z : Build). z.pack) (sym g))) n
      go n (suc k) e l g p = h.0.first k e (omega arith) g p

  -- or it stands in front
  front : (d : Build) → ((k : ℕ) → At (first_uses (with_last earlier b.pack) bs) k d → First bs d × (among d.pack (with_last earlier b.pack) ≡ false))
      → among b.pack earlier ≡ false → (j : ℕ) → At (b ∷ first_uses (with_last earlier b.pack) bs) j d → First (b ∷ bs) d × (among d.pack earlier ≡ false)
  front d rest t zero g = (record { place = 0; here = g; first = λ k e l. absurd (omega arith) }, subst (λ (z : Build). among z.pack earlier ≡ false) g t)
  front d rest t (suc j) g = later d (rest j g)

pub firsts_first : (earlier : List (List ℕ)) (bs : List Build) (j : ℕ) (d : Build) → At (first_uses earlier bs) j d → First bs d × (among d.pack earlier ≡ false)
firsts_first earlier [] j d h = absurd h
firsts_first earlier (b ∷ bs) j d h =
    on (among b.pack earlier)
    (λ t. later earlier b bs d (firsts_first (with_last earlier b.pack) bs j d (rw t at h)))
    (λ t. front earlier b bs d (λ k g. firsts_first (with_last earlier b.pack) bs k d g) t j (rw t at h))

-- each package that is none of the earlier ones' is there
pub firsts_has : (earlier : List (List ℕ)) (bs : List Build) (i : ℕ) (b : Build) → At bs i b → among b.pack earlier ≡ false
    → (j : ℕ) × (d : Build) × At (first_uses earlier bs) j d × (d.pack ≡ b.pack)
firsts_has earlier [] i b h n = absurd h
firsts_has earlier (x ∷ bs) zero b h n =
    let t : among x.pack earlier ≡ false = subst (λ (z : Build). among z.pack earlier ≡ false) (sym h) n in
    rw t (0, x, refl, ap (λ (z : Build). z.pack) h)
firsts_has earlier (x ∷ bs) (suc i) b h n =
    on (same b.pack x.pack)
    (λ t. let e : b.pack ≡ x.pack = same_eq b.pack x.pack t in rw (subst (λ (z : List ℕ). among z earlier ≡ false) e n) (0, x, refl, sym e))
    (λ t. let r = firsts_has (with_last earlier x.pack) bs i b h (after_among b.pack x.pack earlier n t) in
    on (among x.pack earlier) (λ u. rw u r) (λ u. rw u (suc r.0, r.1, r.2, r.3)))

-- and once
pub firsts_one : (earlier : List (List ℕ)) (bs : List Build) (i j : ℕ) (d e : Build) → At (first_uses earlier bs) i d → At (first_uses earlier bs) j e → d.pack ≡ e.pack → i ≡ j
firsts_one earlier [] i j d e h g p = absurd h
firsts_one earlier (b ∷ bs) i j d e h g p =
    on (among b.pack earlier)
    (λ t. firsts_one (with_last earlier b.pack) bs i j d e (rw t at h) (rw t at g) p)
    (λ t. go (λ k l a c. firsts_one (with_last earlier b.pack) bs k l d e a c p) i j (rw t at h) (rw t at g))
  where
    other : (x y : Build) (k : ℕ) → b ≡ x → At (first_uses (with_last earlier b.pack) bs) k y → x.pack ≡ y.pack → ⊥
    other x y k a c q =
        never (eq_same y.pack b.pack (sym q ∙ ap (λ (z : Build). z.pack) (sym a))) (among_after y.pack b.pack earlier (firsts_first (with_last earlier b.pack) bs k y c).1).1

    go : ((k l : ℕ) → At (first_uses (with_last earlier b.pack) bs) k d → At (first_uses (with_last earlier b.pack) bs) l e → k ≡ l)
        → (k l : ℕ) → At (b ∷ first_uses (with_last earlier b.pack) bs) k d → At (b ∷ first_uses (with_last earlier b.pack) bs) l e → k ≡ l
    go rest zero zero a c = refl
    go rest zero (suc l) a c = absurd (other d e l a c p)
    go rest (suc k) zero a c = absurd (other e d k c a (sym p))
    go rest (suc k) (suc l) a c = ap suc (rest k l a c)

pub firsts_length : (earlier : List (List ℕ)) (bs : List Build) → length (first_uses earlier bs) ≤ length bs
firsts_length earlier [] = omega arith
firsts_length earlier (b ∷ bs) =
    let h = firsts_length (with_last earlier b.pack) bs in
    on (among b.pack earlier) (λ t. rw t (omega (arith, h))) (λ t. rw t (omega (arith, h)))

-- ---- what components want

-- the use that a build stands for
abbrev pub asked : Build → Use
asked b = record { pack = b.pack; features = b.features }

-- a component does not use one package as payload and as PBP with two feature sets
abbrev pub Agrees : Component → Type 0
Agrees c = (p : List ℕ) → c.head.pack ≡ some p → c.boot.pbp_pack ≡ some p → c.role.features ≡ c.role.pbp_features

-- then 60 compares what is wanted
wanted_uses : (c : Component) → Agrees c → map asked (wanted c) ≡ uses_of c
unfolding wanted uses_of
wanted_uses c = go c.head.pack c.boot.pbp_pack
  where
    go : (p q : Option (List ℕ)) → ((n : List ℕ) → p ≡ some n → q ≡ some n → c.role.features ≡ c.role.pbp_features)
        → map asked (built? p c.head.bin c.role.features ++ built? q none c.role.pbp_features)
        ≡ use? p (pick (twice p q) c.role.pbp_features c.role.features) ++ use? q c.role.pbp_features
    go none none h = refl
    go none (some m) h = refl
    go (some n) none h = refl
    go (some n) (some m) h =
        on (same n m)
        (λ t. rw (t, h n refl (ap some (sym (same_eq n m t)))))
        (λ t. rw t)

pub wanted_use : (cs : List Component) (b : Build) → ((j : ℕ) (c : Component) → At cs j c → Agrees c) → In b (wanted_by cs) → In (asked b) (all_uses cs)
wanted_use [] b h g = absurd g.1
wanted_use (c ∷ cs) b h g = go (wanted_use cs b (λ j d k. h (suc j) d k)) (in_split b (wanted c) (wanted_by cs) g)
  where
    go : (In b (wanted_by cs) → In (asked b) (all_uses cs)) → In b (wanted c) ⊎ In b (wanted_by cs) → In (asked b) (uses_of c ++ all_uses cs)
    go rest (inl k) = in_left (asked b) (uses_of c) (all_uses cs) (subst (In (asked b)) (wanted_uses c (h 0 c refl)) (k.0, map_at asked (wanted c) k.0 b k.1))
    go rest (inr k) = in_right (asked b) (uses_of c) (all_uses cs) (rest k)

pub wanted_by_lem : (cs : List Component) (c : Component) (b : Build) → In c cs → In b (wanted c) → In b (wanted_by cs)
wanted_by_lem [] c b h g = absurd h.1
wanted_by_lem (d ∷ cs) c b h g = go (λ k. wanted_by_lem cs c b k g) h.0 h.1
  where
    go : (In c cs → In b (wanted_by cs)) → (i : ℕ) → At (d ∷ cs) i c → In b (wanted d ++ wanted_by cs)
    go rest zero k = in_left b (wanted d) (wanted_by cs) (subst (λ (z : Component). In b (wanted z)) (sym k) g)
    go rest (suc i) k = in_right b (wanted d) (wanted_by cs) (rest (i, k))

pub by_wanted : (cs : List Component) (b : Build) → In b (wanted_by cs) → (c : Component) × In c cs × In b (wanted c)
by_wanted [] b h = absurd h.1
by_wanted (d ∷ cs) b h = go (by_wanted cs b) (in_split b (wanted d) (wanted_by cs) h)
  where
    go : (In b (wanted_by cs) → (c : Component) × In c cs × In b (wanted c)) → In b (wanted d) ⊎ In b (wanted_by cs) → (c : Component) × In c (d ∷ cs) × In b (wanted c)
    go rest (inl k) = (d, (0, refl), k)
    go rest (inr k) = let r = rest k in (r.0, in_more r.0 d cs r.1, r.2)

-- ---- the application among the components

-- c is one of the components, or the application
abbrev pub Among : Option Application → List Component → Component → Type 0
Among a cs c = In c cs ⊎ ((x : Application) × (a ≡ some x) × (c ≡ component_of x))

module _ (a : Component) where
  ahead_in : (cs : List Component) (c : Component) → In c (ahead a cs) → In c cs ⊎ (c ≡ a)
  ahead_in [] c h = go h.0 h.1
    where
      go : (i : ℕ) → At (a ∷ []) i c → In c [] ⊎ (c ≡ a)
      go zero g = inr (sym g)
      go (suc i) g = absurd g
  ahead_in (d ∷ cs) c h =
      on (nil? d.role.partition)
      (λ t. let h' : In c (d ∷ ahead a cs) = rw t at h in near (λ g. ahead_in cs c g) h'.0 h'.1)
      (λ t. let h' : In c (a ∷ d ∷ cs) = rw t at h in far h'.0 h'.1)
    where
      more : In c cs ⊎ (c ≡ a) → In c (d ∷ cs) ⊎ (c ≡ a)
      more (inl g) = inl (in_more c d cs g)
      more (inr g) = inr g

      near : (In c (ahead a cs) → In c cs ⊎ (c ≡ a)) → (i : ℕ) → At (d ∷ ahead a cs) i c → In c (d ∷ cs) ⊎ (c ≡ a)
      near rest zero g = inl (0, g)
      near rest (suc i) g = more (rest (i, g))

      far : (i : ℕ) → At (a ∷ d ∷ cs) i c → In c (d ∷ cs) ⊎ (c ≡ a)
      far zero g = inr (sym g)
      far (suc i) g = inl (i, g)

  ahead_has : (cs : List Component) → In a (ahead a cs)
  ahead_has [] = (0, refl)
  ahead_has (d ∷ cs) = on (nil? d.role.partition) (λ t. rw t (in_more a d (ahead a cs) (ahead_has cs))) (λ t. rw t (0, refl))

  ahead_keeps : (cs : List Component) (c : Component) → In c cs → In c (ahead a cs)
  ahead_keeps [] c h = absurd h.1
  ahead_keeps (d ∷ cs) c h =
      on (nil? d.role.partition) (λ t. rw t (go (λ g. ahead_keeps cs c g) h.0 h.1)) (λ t. rw t (in_more c a (d ∷ cs) h))
    where
      go : (In c cs → In c (ahead a cs)) → (i : ℕ) → At (d ∷ cs) i c → In c (d ∷ ahead a cs)
      go rest zero g = (0, g)
      go rest (suc i) g = in_more c d (ahead a cs) (rest (i, g))

  ahead_length : (cs : List Component) → length (ahead a cs) ≡ suc (length cs)
  ahead_length [] = refl
  ahead_length (d ∷ cs) = on (nil? d.role.partition) (λ t. rw t (ap suc (ahead_length cs))) (λ t. rw t)

-- composition leaves out nothing and adds nothing
pub composition_in : (a : Option Application) (cs : List Component) (c : Component) → In c (composition a cs) → Among a cs c
unfolding composition
composition_in none cs c h = inl h
composition_in (some x) cs c h = go (ahead_in (component_of x) cs c h)
  where
    go : In c cs ⊎ (c ≡ component_of x) → Among (some x) cs c
    go (inl g) = inl g
    go (inr g) = inr (x, refl, g)

pub in_composition : (a : Option Application) (cs : List Component) (c : Component) → Among a cs c → In c (composition a cs)
unfolding composition
in_composition none cs c (inl h) = h
in_composition none cs c (inr h) = none_some h.0 h.1
in_composition (some x) cs c (inl h) = ahead_keeps (component_of x) cs c h
in_composition (some x) cs c (inr h) = subst (λ (z : Component). In z (ahead (component_of x) cs)) (sym (h.2 ∙ ap component_of (some_one h.0 x (sym h.1)))) (ahead_has (component_of x) cs)

pub composition_length : (a : Option Application) (cs : List Component) → length (composition a cs) ≤ suc (length cs)
unfolding composition
composition_length none cs = omega arith
composition_length (some x) cs = omega (arith, ahead_length (component_of x) cs)

-- nor does the order of builds
pub order_in : (a : Option Application) (cs : List Component) (c : Component) → In c (in_order a cs) → Among a cs c
unfolding in_order
order_in none cs c h = inl h
order_in (some x) cs c h = go (in_split c cs (component_of x ∷ []) h)
  where
    last : (i : ℕ) → At (component_of x ∷ []) i c → Among (some x) cs c
    last zero g = inr (x, refl, sym g)
    last (suc i) g = absurd g

    go : In c cs ⊎ In c (component_of x ∷ []) → Among (some x) cs c
    go (inl g) = inl g
    go (inr g) = last g.0 g.1

pub in_order_lem : (a : Option Application) (cs : List Component) (c : Component) → Among a cs c → In c (in_order a cs)
unfolding in_order
in_order_lem none cs c (inl h) = h
in_order_lem none cs c (inr h) = none_some h.0 h.1
in_order_lem (some x) cs c (inl h) = in_left c cs (component_of x ∷ []) h
in_order_lem (some x) cs c (inr h) = in_right c cs (component_of x ∷ []) (0, sym (h.2 ∙ ap component_of (some_one h.0 x (sym h.1))))

-- ---- how many builds

built_length : (p bin : Option (List ℕ)) (fs : List (List ℕ)) → length (built? p bin fs) ≤ 1
built_length none bin fs = omega arith
built_length (some n) bin fs = omega arith

wanted_length : (c : Component) → length (wanted c) ≤ 2
unfolding wanted
wanted_length c =
    omega (arith, length-append (built? c.head.pack c.head.bin c.role.features) (built? c.boot.pbp_pack none c.role.pbp_features), built_length c.head.pack c.head.bin c.role.features, built_length c.boot.pbp_pack none c.role.pbp_features)

all_length : (cs : List Component) → length (wanted_by cs) ≤ 2 * length cs
all_length [] = omega arith
all_length (c ∷ cs) = omega (arith, length-append (wanted c) (wanted_by cs), wanted_length c, all_length cs)

last_length : (cs : List Component) (c : Component) → length (wanted_by (with_last cs c)) ≡ length (wanted_by cs) + length (wanted c)
last_length [] c = omega (arith, length-append (wanted c) [])
last_length (d ∷ cs) c = omega (arith, length-append (wanted d) (wanted_by cs), length-append (wanted d) (wanted_by (with_last cs c)), last_length cs c)

application_length : (x : Application) → length (wanted (component_of x)) ≤ 1
unfolding wanted component_of
application_length x = omega arith

-- two for each component, and one for the application
pub builds_length : (a : Option Application) (cs : List Component) → length (builds_of a cs) ≤ 2 * length cs + 1
unfolding builds_of in_order
builds_length none cs = omega (arith, firsts_length [] (wanted_by cs), all_length cs)
builds_length (some x) cs = omega (arith, firsts_length [] (wanted_by (with_last cs (component_of x))), last_length cs (component_of x), all_length cs, application_length x)
