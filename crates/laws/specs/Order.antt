-- Byte order, and a table's entries in byte order of key: the same values, each key once, rising.
use Rattle.std.specs.Prelude.{ℕ, suc, ◌<◌, true, false, List, [], ◌∷◌, ◌⊎◌, ◌≡◌, refl, eqb}
use Rattle.std.proofs.Common.{inl, inr, ⊎_elim, sym, ap, ◌∙◌, arith, eqb-true, eq-eqb, ne_eqb, ltb-true, ltb-false, lt-ltb}
use Rattle.std.proofs.Math.Option.{Option, none, some}
use Rattle.std.proofs.lemmas.Bool.{eqb-false}
use Rattle.meaning.specs.Base.{pick, same, less}
use Rattle.meaning.specs.Tree.{Value, Table, empty, entry, lookup, insert}
use Rattle.meaning.specs.Order.{ranked, sorted, entries, past}
use Rattle.laws.specs.Cases.{on, never}
use Rattle.laws.specs.Never.{same_refl}

-- ---- byte order

pub same_eq : (p q : List ℕ) → same p q ≡ true → p ≡ q
same_eq [] [] e = refl
same_eq [] (b ∷ q) e = never e refl
same_eq (a ∷ p) [] e = never e refl
same_eq (a ∷ p) (b ∷ q) e =
    on (eqb a b) (λ f. let g : a ≡ b = eqb-true a b f in let h : p ≡ q = same_eq p q (rw f at e) in cc) (λ f. never {b = false} (rw f at e) refl)

pub eq_same : (p q : List ℕ) → p ≡ q → same p q ≡ true
eq_same p q e = rw e (same_refl q)

pub less_self : (k : List ℕ) → less k k ≡ false
less_self [] = refl
less_self (a ∷ k) = rw (eq-eqb a a refl) (less_self k)

-- by the first byte, or after it
less_cases : (a b : ℕ) (p q : List ℕ) → less (a ∷ p) (b ∷ q) ≡ true → (a < b) ⊎ ((a ≡ b) × (less p q ≡ true))
less_cases a b p q e = on (eqb a b) (λ t. inr (eqb-true a b t, rw t at e)) (λ t. inl (ltb-true a b (rw t at e)))

less_first : (a b : ℕ) (p q : List ℕ) → a < b → less (a ∷ p) (b ∷ q) ≡ true
less_first a b p q l = rw (ne_eqb a b (λ e. omega arith)) (lt-ltb a b l)

less_after : (a b : ℕ) (p q : List ℕ) → a ≡ b → less p q ≡ true → less (a ∷ p) (b ∷ q) ≡ true
less_after a b p q e f = rw (eq-eqb a b e) f

pub less_on : (a b c : List ℕ) → less a b ≡ true → less b c ≡ true → less a c ≡ true
less_on [] [] c e f = never e refl
less_on [] (b ∷ q) [] e f = never f refl
less_on [] (b ∷ q) (c ∷ r) e f = refl
less_on (a ∷ p) [] c e f = never e refl
less_on (a ∷ p) (b ∷ q) [] e f = never f refl
less_on (a ∷ p) (b ∷ q) (c ∷ r) e f =
    ⊎_elim
    (λ (h : a < b). ⊎_elim (λ (k : b < c). less_first a c p r (omega arith)) (λ (k : (b ≡ c) × (less q r ≡ true)). less_first a c p r (omega (arith, k.0))) (less_cases b c q r f))
    (λ (h : (a ≡ b) × (less p q ≡ true)). ⊎_elim (λ (k : b < c). less_first a c p r (omega (arith, h.0)))
    (λ (k : (b ≡ c) × (less q r ≡ true)). less_after a c p r (h.0 ∙ k.0) (less_on p q r h.1 k.1)) (less_cases b c q r f))
    (less_cases a b p q e)

-- two strings of which neither comes first are one
pub less_one : (a b : List ℕ) → less a b ≡ false → less b a ≡ false → a ≡ b
less_one [] [] e f = refl
less_one [] (b ∷ q) e f = never {b = true} refl e
less_one (a ∷ p) [] e f = never {b = true} refl f
less_one (a ∷ p) (b ∷ q) e f =
    on (eqb a b)
    (λ t. let g : a ≡ b = eqb-true a b t in
    let h : p ≡ q = less_one p q (rw t at e) (rw (eq-eqb b a (sym g)) at f) in cc)
    (λ t. let d : a ≡ b → ⊥ = eqb-false a b t in
    absurd (d (omega (arith, ltb-false a b (rw t at e), ltb-false b a (rw (ne_eqb b a (λ x. d (sym x))) at f)))))

pub less_back : (a b : List ℕ) → less a b ≡ true → less b a ≡ false
less_back a b e = on (less b a) (λ f. never (less_on a b a e f) (less_self a)) (λ f. f)

pub less_apart : (a b : List ℕ) → less a b ≡ true → same a b ≡ false
less_apart a b e = on (same a b) (λ f. let g : a ≡ b = same_eq a b f in never (rw g at e) (less_self b)) (λ f. f)

-- what is not below and not the same is above
pub less_else : (a b : List ℕ) → less a b ≡ false → same a b ≡ false → less b a ≡ true
less_else a b e f = on (less b a) (λ g. g) (λ g. never (eq_same a b (less_one a b e g)) f)

-- below what is at most c
pub less_most : (a b c : List ℕ) → less a b ≡ true → less c b ≡ false → less a c ≡ true
less_most a b c e f =
    on (less b c) (λ g. less_on a b c e g) (λ g. let h : b ≡ c = less_one b c g f in rw h at e)

-- ---- tables whose keys rise

-- k comes before the first key
abbrev pub Before : List ℕ → Table → Type 0
Before k empty = Unit {0}
Before k (entry j v t) = less k j ≡ true

abbrev pub Rises : Table → Type 0
Rises empty = Unit {0}
Rises (entry k v t) = Before k t × Rises t

before_on : (t : Table) (j k : List ℕ) → less j k ≡ true → Before k t → Before j t
before_on empty j k e h = tt
before_on (entry i v t) j k e h = less_on j k i e h

-- a key that is not above what comes before the first is none of the table's
pub lookup_low : (t : Table) (k m : List ℕ) → Rises t → Before k t → less k m ≡ false → lookup t m ≡ none
lookup_low empty k m h b e = refl
lookup_low (entry j v t) k m h b e =
    on (same j m)
    (λ f. let g : j ≡ m = same_eq j m f in never (rw g at b) e)
    (λ f. rw f (lookup_low t k m h.1 (before_on t k j b h.0) e))

none_some : {G : Type 0} (v : Value) → none ≡ some v → G
none_some v e = let z : ◌≡◌ {A = ℕ} 0 1 = cc in absurd (omega arith)

-- the first key is the least
pub first_least : (t : Table) (k m : List ℕ) (v w : Value) → Rises (entry k v t) → lookup (entry k v t) m ≡ some w → less m k ≡ false
first_least t k m v w h e =
    on (same k m)
    (λ f. let g : k ≡ m = same_eq k m f in rw g (less_self m))
    (λ f. on (less k m) (λ g. less_back k m g)
    (λ g. none_some w (sym (lookup_low t k m h.1 h.0 g) ∙ rw f at e)))

-- after it stand the keys above it
pub rest_lookup : (t : Table) (k m : List ℕ) (v : Value) → Rises (entry k v t) → lookup t m ≡ pick (less k m) (lookup (entry k v t) m) none
rest_lookup t k m v h = on (less k m) (λ e. rw (e, less_apart k m e)) (λ e. rw e (lookup_low t k m h.1 h.0 e))

-- what a rising table holds decides it
pub rises_one : (t u : Table) → Rises t → Rises u → ((k : List ℕ) → lookup t k ≡ lookup u k) → t ≡ u
rises_one empty empty h g e = refl
rises_one empty (entry k v u) h g e = none_some v (e k ∙ rw (same_refl k))
rises_one (entry k v t) empty h g e = none_some v (sym (e k) ∙ rw (same_refl k))
rises_one (entry k v t) (entry j w u) h g e =
    let a : lookup (entry k v t) k ≡ some v = rw (same_refl k) in
    let b : lookup (entry j w u) j ≡ some w = rw (same_refl j) in
    let d : k ≡ j = less_one k j (first_least u j k w v g (sym (e k) ∙ a)) (first_least t k j v w h (e j ∙ b)) in
    let c : some v ≡ some w = sym a ∙ ap (lookup (entry k v t)) d ∙ e j ∙ b in
    let r : t ≡ u = rises_one t u h.1 g.1
    (λ m. rest_lookup t k m v h ∙ ap (λ (o : Option Value). pick (less k m) o none) (e m)
    ∙ ap (λ (i : List ℕ). pick (less i m) (lookup (entry j w u) m) none) d ∙ sym (rest_lookup u j m w g)) in
    let s : v ≡ w = cc in
    cc

-- ---- in byte order

ranked_before : (t : Table) (j k : List ℕ) (v : Value) → less j k ≡ true → Before j t → Before j (ranked k v t)
ranked_before empty j k v e h = e
ranked_before (entry i w t) j k v e h = on (less i k) (λ f. rw f h) (λ f. rw f e)

ranked_rises : (t : Table) (k : List ℕ) (v : Value) → Rises t → Rises (ranked k v t)
ranked_rises empty k v h = (tt, tt)
ranked_rises (entry j w t) k v h =
    on (less j k)
    (λ e. rw e (ranked_before t j k v e h.0, ranked_rises t k v h.1))
    (λ e. on (same j k)
    (λ f. let g : j ≡ k = same_eq j k f in rw (e, f) (rw g at h.0, h.1))
    (λ f. rw (e, f) (less_else j k e f, h)))

-- the keys of a table in byte order rise
pub sorted_rises : (t : Table) → Rises (sorted t)
sorted_rises empty = tt
sorted_rises (entry k v t) = ranked_rises (sorted t) k v (sorted_rises t)

ranked_lookup : (t : Table) (k : List ℕ) (v : Value) (m : List ℕ) → lookup (ranked k v t) m ≡ pick (same k m) (some v) (lookup t m)
ranked_lookup empty k v m = refl
ranked_lookup (entry j w t) k v m =
    on (less j k)
    (λ e. rw (e, ranked_lookup t k v m)
    (on (same j m)
    (λ f. let g : same k m ≡ false = on (same k m) (λ x. never (eq_same j k (same_eq j m f ∙ sym (same_eq k m x))) (less_apart j k e)) (λ x. x) in rw (f, g))
    (λ f. rw f)))
    (λ e. on (same j k)
    (λ f. let g : j ≡ k = same_eq j k f in rw (e, f, g) (on (same k m) (λ x. rw x) (λ x. rw x)))
    (λ f. rw (e, f)))

-- every key has the value that it has in the table
pub sorted_lookup : (t : Table) (k : List ℕ) → lookup (sorted t) k ≡ lookup t k
sorted_lookup empty k = refl
sorted_lookup (entry j v t) k = ranked_lookup (sorted t) j v k ∙ ap (pick (same j k) (some v)) (sorted_lookup t k)

-- and the order in which the keys came does not count
pub sorted_one : (t u : Table) → ((k : List ℕ) → lookup t k ≡ lookup u k) → sorted t ≡ sorted u
sorted_one t u e =
    rises_one (sorted t) (sorted u) (sorted_rises t) (sorted_rises u) (λ k. sorted_lookup t k ∙ e k ∙ sym (sorted_lookup u k))

-- ---- what stands after a key

before_past : (t : Table) (k : List ℕ) → Before k t → past k t ≡ t
before_past empty k h = refl
before_past (entry j v t) k h = rw h

-- after the first key stands the rest
pub past_first : (t : Table) (k : List ℕ) (v : Value) → Rises (entry k v t) → past k (entry k v t) ≡ t
past_first t k v h = rw (less_self k) (before_past t k h.0)

pub past_rises : (t : Table) (k : List ℕ) → Rises t → Rises (past k t)
past_rises empty k h = tt
past_rises (entry j v t) k h = on (less k j) (λ e. rw e h) (λ e. rw e (past_rises t k h.1))

pub past_lookup : (t : Table) (k m : List ℕ) → Rises t → lookup (past k t) m ≡ pick (less k m) (lookup t m) none
past_lookup empty k m h = on (less k m) (λ e. rw e) (λ e. rw e)
past_lookup (entry j v t) k m h =
    on (less k j)
    (λ e. rw e (on (less k m) (λ f. rw f) (λ f. rw f (lookup_low (entry j v t) k m h e f))))
    (λ e. rw (e, past_lookup t k m h.1)
    (on (less k m)
    (λ f. let g : same j m ≡ false = on (same j m) (λ x. let y : j ≡ m = same_eq j m x in never f (rw y at e)) (λ x. x) in rw (f, g))
    (λ f. rw f)))

-- ---- tables that have each key once

abbrev pub Distinct : Table → Type 0
Distinct empty = Unit {0}
Distinct (entry k v t) = (lookup t k ≡ none) × Distinct t

pub lookup_other : (t : Table) (k m : List ℕ) (u : Value) → (k ≡ m → ⊥) → lookup (insert t k u) m ≡ lookup t m
lookup_other empty k m u d = on (same k m) (λ e. absurd (d (same_eq k m e))) (λ e. rw e)
lookup_other (entry j v t) k m u d =
    on (same j k)
    (λ e. on (same j m) (λ f. absurd (d (sym (same_eq j k e) ∙ same_eq j m f))) (λ f. rw (e, f)))
    (λ e. on (same j m) (λ f. rw (e, f)) (λ f. rw (e, f) (lookup_other t k m u d)))

-- "a repeated key overwrites": no key comes twice
pub insert_distinct : (t : Table) (k : List ℕ) (v : Value) → Distinct t → Distinct (insert t k v)
insert_distinct empty k v h = (refl, tt)
insert_distinct (entry j w t) k v h =
    on (same j k) (λ e. rw e h)
    (λ e. rw e (lookup_other t k j v (λ d. never (eq_same j k (sym d)) e) ∙ h.0, insert_distinct t k v h.1))

ranked_entries : (t : Table) (k : List ℕ) (v : Value) → lookup t k ≡ none → entries (ranked k v t) ≡ suc (entries t)
ranked_entries empty k v e = refl
ranked_entries (entry j w t) k v e =
    on (same j k) (λ f. none_some w (sym (rw f at e)))
    (λ f. on (less j k) (λ g. rw g (ap suc (ranked_entries t k v (rw f at e)))) (λ g. rw (g, f)))

-- then there are as many entries in byte order
pub sorted_entries : (t : Table) → Distinct t → entries (sorted t) ≡ entries t
sorted_entries empty h = refl
sorted_entries (entry k v t) h = ranked_entries (sorted t) k v (sorted_lookup t k ∙ h.0) ∙ ap suc (sorted_entries t h.1)
