-- What 60 leaves: all uses of one package ask for the same features.
use Prim.Native.Nat.{ℕ, zero, suc}
use Rattle.std.specs.Prelude.{true, false, ◌⊎◌, ◌≡◌, refl}
use mathlib.Core.List.{List, [], ◌∷◌, ◌++◌, append_assoc, append-nil}
use Rattle.std.proofs.Common.{inl, inr, sym, ap, ◌∙◌, arith}
use Rattle.std.proofs.Math.Option.{Option, none, some}
use Rattle.std.proofs.Math.Path.{subst}
use Rattle.meaning.specs.Base.{pick, same}
use Rattle.meaning.specs.Refusal.{in_component}
use Rattle.meaning.specs.Schema.{Component, Application}
use Rattle.meaning.specs.Verdict.{fine, in_turn}
use Rattle.meaning.specs.Rules.{Use, use?, twice, uses_of, use_of, all_uses, same_all, differ, clash, clashes, use_fault, feature_rules}
use Rattle.laws.specs.Cases.{on, never}
use Rattle.laws.specs.Order.{same_eq, eq_same}
use Rattle.laws.specs.Accepted.{Passes, fine_passes, and_first, and_second}
use Rattle.laws.specs.Places.{At, In, in_left, in_split}

-- ---- two uses of one package

abbrev pub Alike : Use → Use → Type 0
Alike u v = u.pack ≡ v.pack → u.features ≡ v.features

abbrev pub AllAlike : List Use → Type 0
AllAlike us = (u v : Use) → In u us → In v us → Alike u v

same_all_eq : (xs ys : List (List ℕ)) → same_all xs ys ≡ true → xs ≡ ys
same_all_eq [] [] e = refl
same_all_eq [] (y ∷ ys) e = never {b = false} e refl
same_all_eq (x ∷ xs) [] e = never {b = false} e refl
same_all_eq (x ∷ xs) (y ∷ ys) e =
    on (same x y)
    (λ t. rw (same_eq x y t, same_all_eq xs ys (rw t at e)))
    (λ t. never {b = false} (rw t at e) refl)

differ_no : (u v : Use) → differ u v ≡ false → Alike u v
unfolding differ
differ_no u v e p =
    on (same_all u.features v.features) (λ t. same_all_eq _ _ t) (λ t. never {b = true} refl (rw (eq_same u.pack v.pack p, t) at e))

clash_no : (earlier : List Use) (i : ℕ) (u v : Use) → clash earlier u ≡ false → At earlier i v → Alike v u
clash_no [] i u v e h = absurd h
clash_no (w ∷ earlier) i u v e h = on (differ w u) (λ t. never {b = true} refl (rw t at e)) (λ t. go (λ k g. clash_no earlier k u v (rw t at e) g) t i h)
  where
    go : ((k : ℕ) → At earlier k v → Alike v u) → differ w u ≡ false → (k : ℕ) → At (w ∷ earlier) k v → Alike v u
    go on-rest t zero g = subst (λ (z : Use). Alike z u) g (differ_no w u t)
    go on-rest t (suc k) g = on-rest k g

clashes_no : (earlier us : List Use) (i j : ℕ) (u v : Use) → clashes earlier us ≡ false → At us j u → At earlier i v → Alike v u
clashes_no earlier [] i j u v e h g = absurd h
clashes_no earlier (w ∷ us) i zero u v e h g =
    on (clash earlier w) (λ t. never {b = true} refl (rw t at e)) (λ t. subst (λ (z : Use). Alike v z) h (clash_no earlier i w v t g))
clashes_no earlier (w ∷ us) i (suc j) u v e h g =
    on (clash earlier w) (λ t. never {b = true} refl (rw t at e)) (λ t. clashes_no earlier us i j u v (rw t at e) h g)

use_clear : (earlier us : List Use) (u v : Use) → use_fault earlier us ≡ 0 → In u us → In v earlier → Alike v u
use_clear earlier us u v e h g =
    on (clashes earlier us)
    (λ t. let z : ◌≡◌ {A = ℕ} 60 0 = rw t at e in absurd (omega arith))
    (λ t. clashes_no earlier us g.0 h.0 u v t h.1 g.1)

-- ---- lists of uses

alike_join : (xs ys : List Use) → AllAlike xs → AllAlike ys → ((u v : Use) → In u ys → In v xs → Alike v u) → AllAlike (xs ++ ys)
alike_join xs ys h g across u v a b = go (in_split u xs ys a) (in_split v xs ys b)
  where
    go : In u xs ⊎ In u ys → In v xs ⊎ In v ys → Alike u v
    go (inl k) (inl l) = h u v k l
    go (inl k) (inr l) = across v u l k
    go (inr k) (inl l) = λ e. sym (across u v k l (sym e))
    go (inr k) (inr l) = g u v k l

one_alike : (p : Option (List ℕ)) (fs : List (List ℕ)) → AllAlike (use? p fs)
one_alike none fs u v h g = absurd h.1
one_alike (some p) fs u v h g = λ e. go h.0 g.0 h.1 g.1
  where
    go : (i j : ℕ) → At (use? (some p) fs) i u → At (use? (some p) fs) j v → u.features ≡ v.features
    go zero zero k l = ap (λ (z : Use). z.features) (sym k ∙ l)
    go zero (suc j) k l = absurd l
    go (suc i) j k l = absurd k

-- one component's two uses; where they are of one package, one feature set counts for both
pair_alike : (p q : Option (List ℕ)) (fs gs : List (List ℕ)) → AllAlike (use? p (pick (twice p q) gs fs) ++ use? q gs)
pair_alike p q fs gs = alike_join (use? p (pick (twice p q) gs fs)) (use? q gs) (one_alike p (pick (twice p q) gs fs)) (one_alike q gs) (λ u v h g. go p q h.0 g.0 u v h.1 g.1)
  where
    go : (p q : Option (List ℕ)) (i j : ℕ) (u v : Use) → At (use? q gs) i u → At (use? p (pick (twice p q) gs fs)) j v → Alike v u
    go none q i j u v h g = absurd g
    go (some n) none i j u v h g = absurd h
    go (some n) (some m) zero zero u v h g = λ e.
        let s : n ≡ m = ap (λ (z : Use). z.pack) g ∙ e ∙ sym (ap (λ (z : Use). z.pack) h) in
        sym (ap (λ (z : Use). z.features) g) ∙ rw (eq_same n m s) (ap (λ (z : Use). z.features) h)
    go (some n) (some m) zero (suc j) u v h g = absurd g
    go (some n) (some m) (suc i) j u v h g = absurd h

own_alike : (c : Component) → AllAlike (uses_of c)
unfolding uses_of
own_alike c = pair_alike c.head.pack c.boot.pbp_pack c.role.features c.role.pbp_features

components_alike : (earlier : List Use) (cs : List Component) → AllAlike earlier → Passes (λ us c. use_fault us (uses_of c)) (λ us c. us ++ uses_of c) earlier cs → AllAlike (earlier ++ all_uses cs)
components_alike earlier [] h p = subst AllAlike (sym (append-nil earlier)) h
components_alike earlier (c ∷ cs) h p =
    let joined : AllAlike (earlier ++ uses_of c) = alike_join earlier (uses_of c) h (own_alike c) (λ u v a b. use_clear earlier (uses_of c) u v p.0 a b) in
    subst AllAlike (append_assoc earlier (uses_of c) (all_uses cs)) (components_alike (earlier ++ uses_of c) cs joined p.1)

abbrev pub as_use : Application → Use
as_use a = record { pack = a.pack; features = a.features }

application_alike : (earlier : List Use) (apps : List Application) (i : ℕ) (a : Application) (v : Use)
    → Passes (λ us b. use_fault us (use_of b)) (λ us b. us ++ use_of b) earlier apps → At apps i a → In v earlier → Alike v (as_use a)
application_alike earlier [] i a v p h g = absurd h
application_alike earlier (b ∷ apps) zero a v p h g = subst (λ (z : Application). Alike v (as_use z)) h (use_clear earlier (use_of b) (as_use b) v p.0 (0, refl) g)
application_alike earlier (b ∷ apps) (suc i) a v p h g = application_alike (earlier ++ use_of b) apps i a v p.1 h (in_left v earlier (use_of b) g)

-- 60: all uses of the components are alike, and one application's beside them
module _ (cs : List Component) (apps : List Application) (e : feature_rules cs apps ≡ fine) where
  pub uses_alike : AllAlike (all_uses cs)
  unfolding feature_rules
  uses_alike = components_alike [] cs (λ u v h g. absurd h.1) (fine_passes _ _ _ 0 [] cs (and_first (in_turn _ _ in_component 0 [] cs) _ e))

  pub application_uses : (i : ℕ) (a : Application) → At apps i a → AllAlike (all_uses cs ++ use_of a)
  unfolding feature_rules
  application_uses i a h =
      let p : Passes (λ us b. use_fault us (use_of b)) (λ us b. us ++ use_of b) (all_uses cs) apps = fine_passes _ _ _ 0 (all_uses cs) apps (and_second (in_turn _ _ in_component 0 [] cs) _ e) in
      alike_join (all_uses cs) (use_of a) uses_alike (one_alike (some a.pack) a.features) (λ u v k g. only u v k.0 k.1 (application_alike (all_uses cs) apps i a v p h g))
    where
      only : (u v : Use) (j : ℕ) → At (use_of a) j u → Alike v (as_use a) → Alike v u
      only u v zero k l = subst (λ (z : Use). Alike v z) k l
      only u v (suc j) k l = absurd k

pub uses_append : (cs ds : List Component) → all_uses (cs ++ ds) ≡ all_uses cs ++ all_uses ds
uses_append [] ds = refl
uses_append (c ∷ cs) ds = ap (λ (us : List Use). uses_of c ++ us) (uses_append cs ds) ∙ sym (append_assoc (uses_of c) (all_uses cs) (all_uses ds))
