-- What validation has shown where it refuses nothing.
use Rattle.std.specs.Prelude.{ℕ, zero, suc, ◌+◌, ◌%◌, ◌≤◌, ◌<◌, Bool, true, false, ◌≡◌, refl, eqb, ltb, get_or}
use mathlib.Core.List.{List, [], ◌∷◌, ◌++◌, map}
use Rattle.std.proofs.Common.{sym, ap, ◌∙◌}
use native.Mathlib.Omega.{arith}
use borrow.Author.Tests.{eqb-true, eqb-false, eq-eqb, ltb-true, ltb-false}
use Rattle.std.proofs.Math.ListN.{length, get_or-map}
use Rattle.std.proofs.lemmas.List.{length-map}
use Rattle.meaning.specs.Base.{pick, nil?, same}
use Rattle.meaning.specs.Refusal.{accepted, refused, Fault}
use Rattle.meaning.specs.Schema.{Chip, Partition, Component, Preset, erase_for}
use Rattle.meaning.specs.Verdict.{Verdict, fine, first_refusal, judged, or_else, long, among, in_turn, with_last}
use Rattle.meaning.specs.Layout.{Before, nothing_before, end_of, passed, name_fault, block_fault, span_fault, partition_fault, start_fault, layout}
use Rattle.meaning.specs.Rules.{partition_names, given, name_of, component_name, source_fault, boot_fault, target_fault, reserve_fault, component_fault, component_rules, front_rules, feature_rules, application_rules, boot_rule, rules}
use Rattle.laws.specs.Cases.{on, never}
use Rattle.laws.specs.Order.{same_eq, eq_same}

-- ---- verdicts

refusal_never {κ} : {G : Type κ} (f : Fault) (s p : ℕ) → ◌≡◌ {A = Verdict} (refused f s p) fine → G
refusal_never f s p e = let z : ◌≡◌ {A = ℕ} 0 1 = cc in absurd (omega arith)

pub and_first : (v w : Verdict) → first_refusal v w ≡ fine → v ≡ fine
and_first (accepted u) w e = refl
and_first (refused f s p) w e = e

pub and_second : (v w : Verdict) → first_refusal v w ≡ fine → w ≡ fine
and_second (accepted u) w e = e
and_second (refused f s p) w e = refusal_never f s p e

pub and_fine : (v w : Verdict) → v ≡ fine → w ≡ fine → first_refusal v w ≡ fine
and_fine (accepted u) w e g = g
and_fine (refused f s p) w e g = e

pub judged_zero : (section place n : ℕ) → judged section place n ≡ fine → n ≡ 0
judged_zero section place n e = on (eqb n 0) (λ t. eqb-true n 0 t) (λ t. refusal_never _ _ _ (rw t at e))

pub zero_judged : (section place n : ℕ) → n ≡ 0 → judged section place n ≡ fine
zero_judged section place n e = rw (eq-eqb n 0 e)

-- ---- one entry after the other

-- the rule says 0 at each entry, with the state that the entries before it left
abbrev pub Passes : {X S : Type 0} → (S → X → ℕ) → (S → X → S) → S → List X → Type 0
Passes rule next s [] = Unit {0}
Passes rule next s (x ∷ xs) = (rule s x ≡ 0) × Passes rule next (next s x) xs

-- the state that the first i entries leave
abbrev pub left : {X S : Type 0} → (S → X → S) → S → List X → ℕ → S
left next s [] i = s
left next s (x ∷ xs) zero = s
left next s (x ∷ xs) (suc i) = left next (next s x) xs i

module _ {X S : Type 0} (rule : S → X → ℕ) (next : S → X → S) where
  pub fine_passes : (section n : ℕ) (s : S) (xs : List X) → in_turn rule next section n s xs ≡ fine → Passes rule next s xs
  fine_passes section n s [] e = tt
  fine_passes section n s (x ∷ xs) e =
      let v : Verdict = judged section n (rule s x) in
      let w : Verdict = in_turn rule next section (n + 1) (next s x) xs in
      (judged_zero section n (rule s x) (and_first v w e), fine_passes section (n + 1) (next s x) xs (and_second v w e))

  pub passes_fine : (section n : ℕ) (s : S) (xs : List X) → Passes rule next s xs → in_turn rule next section n s xs ≡ fine
  passes_fine section n s [] h = refl
  passes_fine section n s (x ∷ xs) h =
      and_fine (judged section n (rule s x)) (in_turn rule next section (n + 1) (next s x) xs) (zero_judged section n (rule s x) h.0) (passes_fine section (n + 1) (next s x) xs h.1)

  pub passes_at : (s : S) (xs : List X) (d : X) → Passes rule next s xs → (i : ℕ) → i < length xs → rule (left next s xs i) (get_or xs i d) ≡ 0
  passes_at s [] d h i l = absurd (omega arith)
  passes_at s (x ∷ xs) d h zero l = h.0
  passes_at s (x ∷ xs) d h (suc i) l = passes_at (next s x) xs d h.1 i (omega arith)

-- ---- tests of a rule

module _ (n m : ℕ) where
  or_first : or_else n m ≡ 0 → n ≡ 0
  or_first e = on (eqb n 0) (λ t. eqb-true n 0 t) (λ t. rw t at e)

  or_second : or_else n m ≡ 0 → m ≡ 0
  or_second e = on (eqb n 0) (λ t. rw t at e) (λ t. absurd (eqb-false n 0 t (rw t at e)))

-- the number k is not said: the test is as it should be, and what else there is to say is 0
module _ {G : Type 0} (b : Bool) (k m : ℕ) (some : k ≡ 0 → ⊥) where
  no_first : pick b k m ≡ 0 → (b ≡ false → m ≡ 0 → G) → G
  no_first e f = on b (λ t. absurd (some (rw t at e))) (λ t. f t (rw t at e))

  no_second : pick b m k ≡ 0 → (b ≡ true → m ≡ 0 → G) → G
  no_second e f = on b (λ t. f t (rw t at e)) (λ t. absurd (some (rw t at e)))

-- ---- entries by position

abbrev pub All : {X : Type 0} → (X → Type 0) → List X → Type 0
All P [] = Unit {0}
All P (x ∷ xs) = P x × All P xs

pub all_at : {X : Type 0} (P : X → Type 0) (xs : List X) (d : X) → All P xs → (i : ℕ) → i < length xs → P (get_or xs i d)
all_at P [] d h i l = absurd (omega arith)
all_at P (x ∷ xs) d h zero l = h.0
all_at P (x ∷ xs) d h (suc i) l = all_at P xs d h.1 i (omega arith)

-- what each entry that passes has, whatever came before it
pub passes_all : {X S : Type 0} (P : X → Type 0) (rule : S → X → ℕ) (next : S → X → S) → ((s : S) (x : X) → rule s x ≡ 0 → P x) → (s : S) (xs : List X) → Passes rule next s xs → All P xs
passes_all P rule next k s [] h = tt
passes_all P rule next k s (x ∷ xs) h = (k s x h.0, passes_all P rule next k (next s x) xs h.1)

-- ---- names, each once

-- no name is one of those after it
abbrev pub Apart : List (List ℕ) → Type 0
Apart [] = Unit {0}
Apart (x ∷ xs) = (among x xs ≡ false) × Apart xs

-- no name is one of those before it, the first of which are given
abbrev pub Fresh : List (List ℕ) → List (List ℕ) → Type 0
Fresh earlier [] = Unit {0}
Fresh earlier (x ∷ xs) = (among x earlier ≡ false) × Fresh (with_last earlier x) xs

among_more : (x : List ℕ) (ys zs : List (List ℕ)) → among x ys ≡ true → among x (ys ++ zs) ≡ true
among_more x [] zs e = never e refl
among_more x (y ∷ ys) zs e = on (same x y) (λ t. rw t) (λ t. rw t (among_more x ys zs (rw t at e)))

among_last : (x : List ℕ) (ys : List (List ℕ)) → among x (with_last ys x) ≡ true
among_last x [] = rw (eq_same x x refl)
among_last x (y ∷ ys) = on (same x y) (λ t. rw t) (λ t. rw t (among_last x ys))

fresh_other : (earlier xs : List (List ℕ)) (y : List ℕ) → Fresh earlier xs → among y earlier ≡ true → among y xs ≡ false
fresh_other earlier [] y h m = refl
fresh_other earlier (x ∷ xs) y h m =
    on (same y x)
    (λ t. let g : y ≡ x = same_eq y x t in never (rw g at m) h.0)
    (λ t. rw t (fresh_other (with_last earlier x) xs y h.1 (among_more y earlier (x ∷ []) m)))

pub fresh_apart : (earlier xs : List (List ℕ)) → Fresh earlier xs → Apart xs
fresh_apart earlier [] h = tt
fresh_apart earlier (x ∷ xs) h = (fresh_other (with_last earlier x) xs x h.1 (among_last x earlier), fresh_apart (with_last earlier x) xs h.1)

-- a rule that asks each name to be new leaves names that are each there once
module _ {X S : Type 0} (rule : S → X → ℕ) (next : S → X → S) (names : S → List (List ℕ)) (name : X → List ℕ)
    (grows : (s : S) (x : X) → names (next s x) ≡ with_last (names s) (name x)) (new : (s : S) (x : X) → rule s x ≡ 0 → among (name x) (names s) ≡ false) where
  pub passes_fresh : (s : S) (xs : List X) → Passes rule next s xs → Fresh (names s) (map name xs)
  passes_fresh s [] h = tt
  passes_fresh s (x ∷ xs) h = (new s x h.0, rw (grows s x) at (passes_fresh (next s x) xs h.1))

  pub passes_apart : (s : S) (xs : List X) → Passes rule next s xs → Apart (map name xs)
  passes_apart s xs h = fresh_apart (names s) (map name xs) (passes_fresh s xs h)

pub among_at : (x : List ℕ) (ys : List (List ℕ)) (d : List ℕ) (i : ℕ) → i < length ys → same x (get_or ys i d) ≡ true → among x ys ≡ true
among_at x [] d i l e = absurd (omega arith)
among_at x (y ∷ ys) d zero l e = rw e
among_at x (y ∷ ys) d (suc i) l e = on (same x y) (λ t. rw t) (λ t. rw t (among_at x ys d i (omega arith) e))

same_back : (x y : List ℕ) → same x y ≡ true → same y x ≡ true
same_back x y e = eq_same y x (sym (same_eq x y e))

-- two positions with one name are one position
pub apart_one : (xs : List (List ℕ)) (d : List ℕ) → Apart xs → (i j : ℕ) → i < length xs → j < length xs → same (get_or xs i d) (get_or xs j d) ≡ true → i ≡ j
apart_one [] d h i j l k e = absurd (omega arith)
apart_one (x ∷ xs) d h zero zero l k e = refl
apart_one (x ∷ xs) d h zero (suc j) l k e = never (among_at x xs d j (omega arith) e) h.0
apart_one (x ∷ xs) d h (suc i) zero l k e = never (among_at x xs d i (omega arith) (same_back (get_or xs i d) x e)) h.0
apart_one (x ∷ xs) d h (suc i) (suc j) l k e = ap suc (apart_one xs d h.1 i j (omega arith) (omega arith) e)

-- the same of entries that have names
pub named_one : {X : Type 0} (name : X → List ℕ) (xs : List X) (d : X) → Apart (map name xs) → (i j : ℕ) → i < length xs → j < length xs → same (name (get_or xs i d)) (name (get_or xs j d)) ≡ true → i ≡ j
named_one name xs d h i j l k e =
    apart_one (map name xs) (name d) h i j (rw (length-map xs name) l) (rw (length-map xs name) k) (rw (get_or-map name xs i d, get_or-map name xs j d) e)

-- ---- partitions

-- 42, 44, 45, 46, 48: what each partition has
pub record Sound (block : ℕ) (p : Partition) : Type 0 where
  pub named : nil? p.name ≡ false
  pub some_size : p.size ≡ 0 → ⊥
  pub offset_block : p.offset % block ≡ 0
  pub size_block : p.size % block ≡ 0
  pub fits : end_of p < 4294967296

-- 47: each starts at or after the end of the one before it, the first of which is given
abbrev pub Rising : ℕ → List Partition → Type 0
Rising end [] = Unit {0}
Rising end (p ∷ ps) = (end ≤ p.offset) × Rising (end_of p) ps

module _ (block : ℕ) (b : Before) (p : Partition) (e : partition_fault block b p ≡ 0) where
  name_zero : name_fault b.names p.name ≡ 0
  unfolding partition_fault
  name_zero = or_first _ (or_else (block_fault block p) (span_fault b.end p)) e

  block_zero : block_fault block p ≡ 0
  unfolding partition_fault
  block_zero = or_first _ (span_fault b.end p) (or_second (name_fault b.names p.name) _ e)

  span_zero : span_fault b.end p ≡ 0
  unfolding partition_fault
  span_zero = or_second (block_fault block p) _ (or_second (name_fault b.names p.name) _ e)

  name_new : (nil? p.name ≡ false) × (among p.name b.names ≡ false)
  unfolding name_fault
  name_new = no_first (nil? p.name) 42 _ (λ z. omega arith) name_zero (λ t f. no_first (among p.name b.names) 43 0 (λ z. omega arith) f (λ u g. (t, u)))

  block_sound : (p.size ≡ 0 → ⊥) × (p.offset % block ≡ 0) × (p.size % block ≡ 0)
  unfolding block_fault
  block_sound =
      no_first (eqb p.size 0) 44 _ (λ z. omega arith) block_zero
      (λ t f. no_second (eqb (p.offset % block) 0) 45 _ (λ z. omega arith) f
      (λ u g. no_second (eqb (p.size % block) 0) 46 0 (λ z. omega arith) g
      (λ v _. (eqb-false p.size 0 t, eqb-true (p.offset % block) 0 u, eqb-true (p.size % block) 0 v))))

  span_sound : (b.end ≤ p.offset) × (end_of p < 4294967296)
  unfolding span_fault
  span_sound =
      no_first (ltb p.offset b.end) 47 _ (λ z. omega arith) span_zero
      (λ t f. no_second (ltb (end_of p) 4294967296) 48 0 (λ z. omega arith) f (λ u _. (ltb-false p.offset b.end t, ltb-true (end_of p) 4294967296 u)))

  partition_sound : Sound block p
  partition_sound =
      record { named = name_new.0; some_size = block_sound.0; offset_block = block_sound.1; size_block = block_sound.2; fits = span_sound.1 }

pub passes_rising : (block : ℕ) (b : Before) (ps : List Partition) → Passes (partition_fault block) passed b ps → Rising b.end ps
passes_rising block b [] h = tt
passes_rising block b (p ∷ ps) h = ((span_sound block b p h.0).0, passes_rising block (passed b p) ps h.1)

-- all that an accepted layout shows, entry by entry
module _ (chip : Chip) (ps : List Partition) (e : layout chip ps ≡ fine) where
  layout_passes : Passes (partition_fault (erase_for chip)) passed nothing_before ps
  unfolding layout
  layout_passes = go ps e
    where
      go : (qs : List Partition) → layout chip qs ≡ fine → Passes (partition_fault (erase_for chip)) passed nothing_before qs
      go [] g = refusal_never _ _ _ g
      go (q ∷ qs) g = fine_passes (partition_fault (erase_for chip)) passed _ 0 nothing_before (q ∷ qs) (and_second (judged _ 0 (start_fault q)) _ g)

  -- 40: there is a partition
  pub layout_some : 0 < length ps
  unfolding layout
  layout_some = go ps e
    where
      go : (qs : List Partition) → layout chip qs ≡ fine → 0 < length qs
      go [] g = refusal_never _ _ _ g
      go (q ∷ qs) g = omega arith

  -- 41: the first starts at 0
  pub layout_start : (d : Partition) → (get_or ps 0 d).offset ≡ 0
  unfolding layout start_fault
  layout_start d = go ps e
    where
      go : (qs : List Partition) → layout chip qs ≡ fine → (get_or qs 0 d).offset ≡ 0
      go [] g = refusal_never _ _ _ g
      go (q ∷ qs) g =
          no_second (eqb q.offset 0) 41 0 (λ z. omega arith) (judged_zero _ 0 (start_fault q) (and_first (judged _ 0 (start_fault q)) _ g)) (λ t _. eqb-true q.offset 0 t)

  -- 43: each name once
  pub layout_apart : Apart (map (λ (p : Partition). p.name) ps)
  layout_apart =
      passes_apart (partition_fault (erase_for chip)) passed (λ b. b.names) (λ p. p.name) (λ b p. refl) (λ b p z. (name_new (erase_for chip) b p z).1) nothing_before ps layout_passes

  pub layout_sound : All (Sound (erase_for chip)) ps
  layout_sound = passes_all (Sound (erase_for chip)) (partition_fault (erase_for chip)) passed (λ b p z. partition_sound (erase_for chip) b p z) nothing_before ps layout_passes

  pub layout_rising : Rising 0 ps
  layout_rising = passes_rising (erase_for chip) nothing_before ps layout_passes

-- ---- partitions by position

rising_low : (end : ℕ) (ps : List Partition) (d : Partition) → Rising end ps → (i : ℕ) → i < length ps → end ≤ (get_or ps i d).offset
rising_low end [] d h i l = absurd (omega arith)
rising_low end (p ∷ ps) d h zero l = h.0
rising_low end (p ∷ ps) d h (suc i) l = omega (arith, h.0, rising_low (end_of p) ps d h.1 i (omega arith))

pub rising_at : (end : ℕ) (ps : List Partition) (d : Partition) → Rising end ps → (i j : ℕ) → i < j → j < length ps → end_of (get_or ps i d) ≤ (get_or ps j d).offset
rising_at end [] d h i j l k = absurd (omega arith)
rising_at end (p ∷ ps) d h i zero l k = absurd (omega arith)
rising_at end (p ∷ ps) d h zero (suc j) l k = rising_low (end_of p) ps d h.1 j (omega arith)
rising_at end (p ∷ ps) d h (suc i) (suc j) l k = rising_at (end_of p) ps d h.1 i j (omega arith) (omega arith)

-- x is a byte of the partition
abbrev pub Holds : Partition → ℕ → Type 0
Holds p x = (p.offset ≤ x) × (x < end_of p)

module _ (chip : Chip) (ps : List Partition) (d : Partition) (e : layout chip ps ≡ fine) where
  -- two positions with one name are one
  pub layout_names : (i j : ℕ) → i < length ps → j < length ps → same (get_or ps i d).name (get_or ps j d).name ≡ true → i ≡ j
  layout_names i j l k n = named_one (λ (p : Partition). p.name) ps d (layout_apart chip ps e) i j l k n

  pub layout_at : (i : ℕ) → i < length ps → Sound (erase_for chip) (get_or ps i d)
  layout_at i l = all_at (Sound (erase_for chip)) ps d (layout_sound chip ps e) i l

  -- ends rise
  pub layout_ends : (i j : ℕ) → i < j → j < length ps → end_of (get_or ps i d) ≤ (get_or ps j d).offset
  layout_ends i j l k = rising_at 0 ps d (layout_rising chip ps e) i j l k

  -- no byte is of two partitions
  pub layout_share : (i j x : ℕ) → i < length ps → j < length ps → Holds (get_or ps i d) x → Holds (get_or ps j d) x → i ≡ j
  layout_share i j x l k h g =
      on (ltb i j)
      (λ t. absurd (omega (arith, h.1, g.0, layout_ends i j (ltb-true i j t) k)))
      (λ t. on (ltb j i)
      (λ u. absurd (omega (arith, g.1, h.0, layout_ends j i (ltb-true j i u) l)))
      (λ u. omega (arith, ltb-false i j t, ltb-false j i u)))

  pub layout_disjoint : (i j x : ℕ) → (i ≡ j → ⊥) → i < length ps → j < length ps → Holds (get_or ps i d) x → Holds (get_or ps j d) x → ⊥
  layout_disjoint i j x n l k h g = n (layout_share i j x l k h g)

-- ---- a name's one place

-- the position, and the only one, whose name is x
pub record Placed (x : List ℕ) (names : List (List ℕ)) : Type 0 where
  pub place : ℕ
  pub inside : place < length names
  pub is : (d : List ℕ) → same x (get_or names place d) ≡ true
  pub only : (d : List ℕ) (j : ℕ) → j < length names → same x (get_or names j d) ≡ true → j ≡ place

pub among_where : (x : List ℕ) (ys : List (List ℕ)) → among x ys ≡ true → (i : ℕ) × (i < length ys) × ((d : List ℕ) → same x (get_or ys i d) ≡ true)
among_where x [] e = never e refl
among_where x (y ∷ ys) e =
    on (same x y) (λ t. (0, omega arith, λ d. t))
    (λ t. let r : (i : ℕ) × (i < length ys) × ((d : List ℕ) → same x (get_or ys i d) ≡ true) = among_where x ys (rw t at e) in
    (suc r.0, omega (arith, r.1), r.2))

pub among_placed : (x : List ℕ) (names : List (List ℕ)) → Apart names → among x names ≡ true → Placed x names
among_placed x names h e =
    let r : (i : ℕ) × (i < length names) × ((d : List ℕ) → same x (get_or names i d) ≡ true) = among_where x names e in
    record {
      place = r.0;
      inside = r.1;
      is = r.2;
      only = λ d j l s. apart_one names d h j r.0 l r.1 (eq_same (get_or names j d) (get_or names r.0 d) (sym (same_eq x (get_or names j d) s) ∙ same_eq x (get_or names r.0 d) (r.2 d)));
    }

pub names_map : (ps : List Partition) → partition_names ps ≡ map (λ (p : Partition). p.name) ps
names_map [] = refl
names_map (p ∷ ps) = ap (λ (l : List (List ℕ)). p.name ∷ l) (names_map ps)

pub names_length : (ps : List Partition) → length (partition_names ps) ≡ length ps
names_length [] = refl
names_length (p ∷ ps) = ap suc (names_length ps)

pub names_at : (ps : List Partition) (i : ℕ) (d : Partition) → get_or (partition_names ps) i d.name ≡ (get_or ps i d).name
names_at [] i d = refl
names_at (p ∷ ps) zero d = refl
names_at (p ∷ ps) (suc i) d = names_at ps i d

-- in an accepted layout a name that is there names one partition
pub record Meant (x : List ℕ) (ps : List Partition) : Type 0 where
  pub place : ℕ
  pub inside : place < length ps
  pub is : (d : Partition) → same x (get_or ps place d).name ≡ true
  pub only : (d : Partition) (j : ℕ) → j < length ps → same x (get_or ps j d).name ≡ true → j ≡ place

pub layout_meant : (chip : Chip) (ps : List Partition) (x : List ℕ) → layout chip ps ≡ fine → among x (partition_names ps) ≡ true → Meant x ps
layout_meant chip ps x e m =
    let r : Placed x (partition_names ps) = among_placed x (partition_names ps) (rw names_map (layout_apart chip ps e)) m in
    record {
      place = r.place;
      inside = rw names_length at r.inside;
      is = λ d. rw names_at at (r.is d.name);
      only = λ d j l s. r.only d.name j (rw names_length l) (rw names_at s);
    }

-- ---- components

-- 52 to 59: what each component has
pub record Kept (parts : List (List ℕ)) (c : Component) : Type 0 where
  pub short : length c.head.name ≤ 32
  pub source : given c.head.pack ≡ pick (given c.head.file) false true
  pub one_pbp : pick (given c.boot.pbp) (given c.boot.pbp_pack) false ≡ false
  pub loads : c.boot.updater ≡ true → given c.boot.ram ≡ true
  pub updates : nil? c.role.partition ≡ true → c.boot.updater ≡ true
  pub known : nil? c.role.partition ≡ false → among (name_of c.role.partition) parts ≡ true
  pub reserve : c.load.ext_reserve % 512 ≡ 0

-- what is no number of 51 to 59, group by group
name_kept : (earlier : List (List ℕ)) (name : List ℕ) → component_name earlier name ≡ 0 → (among name earlier ≡ false) × (length name ≤ 32)
unfolding component_name
name_kept earlier name e =
    no_first (among name earlier) 51 _ (λ z. omega arith) e (λ t f. no_first (long name) 52 0 (λ z. omega arith) f (λ u _. (t, ltb-false 32 (length name) u)))

source_kept : (pack file : Bool) → source_fault pack file ≡ 0 → pack ≡ pick file false true
unfolding source_fault
source_kept true true e = absurd (omega arith)
source_kept true false e = refl
source_kept false true e = refl
source_kept false false e = absurd (omega arith)

boot_kept : (pbp pbp_pack updater ram : Bool) → boot_fault pbp pbp_pack updater ram ≡ 0 → (pick pbp pbp_pack false ≡ false) × (updater ≡ true → ram ≡ true)
unfolding boot_fault
boot_kept pbp pbp_pack updater ram e =
    no_first (pick pbp pbp_pack false) 55 _ (λ z. omega arith) e
    (λ t f. no_first (pick updater (pick ram false true) false) 56 0 (λ z. omega arith) f
    (λ u _. (t, λ g. on ram (λ r. r) (λ r. never {b = true} refl (rw (g, r) at u)))))

target_kept : (parts : List (List ℕ)) (updater : Bool) (reference : List ℕ) → target_fault parts updater reference ≡ 0
    → (nil? reference ≡ true → updater ≡ true) × (nil? reference ≡ false → among (name_of reference) parts ≡ true)
unfolding target_fault
target_kept parts updater reference e =
    (λ t. no_second updater 57 0 (λ z. omega arith) (rw t at e) (λ u _. u), λ t. no_second (among (name_of reference) parts) 58 0 (λ z. omega arith) (rw t at e) (λ u _. u))

reserve_kept : (n : ℕ) → reserve_fault n ≡ 0 → n % 512 ≡ 0
unfolding reserve_fault
reserve_kept n e = no_second (eqb (n % 512) 0) 59 0 (λ z. omega arith) e (λ u _. eqb-true (n % 512) 0 u)

-- a package or a file, and not both
pub kept_source : (parts : List (List ℕ)) (c : Component) → Kept parts c → given c.head.pack ≡ given c.head.file → ⊥
kept_source parts c h e = on (given c.head.file) (λ t. never (e ∙ t) (rw t at h.source)) (λ t. never (rw t at h.source) (e ∙ t))

-- what goes to no partition is an updater that is loaded to RAM
pub kept_loose : (parts : List (List ℕ)) (c : Component) → Kept parts c → nil? c.role.partition ≡ true → (c.boot.updater ≡ true) × (given c.boot.ram ≡ true)
kept_loose parts c h e = (h.updates e, h.loads (h.updates e))

module _ (parts earlier : List (List ℕ)) (c : Component) (e : component_fault parts earlier c ≡ 0) where
  component_new : (among c.head.name earlier ≡ false) × (length c.head.name ≤ 32)
  unfolding component_fault
  component_new = name_kept earlier c.head.name (or_first (component_name earlier c.head.name) _ e)

  component_kept : Kept parts c
  unfolding component_fault
  component_kept =
      let e₁ = or_second (component_name earlier c.head.name) _ e in
      let e₂ = or_second (source_fault (given c.head.pack) (given c.head.file)) _ e₁ in
      let e₃ = or_second (boot_fault (given c.boot.pbp) (given c.boot.pbp_pack) c.boot.updater (given c.boot.ram)) _ e₂ in
      let boots = boot_kept (given c.boot.pbp) (given c.boot.pbp_pack) c.boot.updater (given c.boot.ram) (or_first _ _ e₂) in
      let goes = target_kept parts c.boot.updater c.role.partition (or_first _ _ e₃) in
      record {
        short = component_new.1;
        source = source_kept (given c.head.pack) (given c.head.file) (or_first _ _ e₁);
        one_pbp = boots.0;
        loads = boots.1;
        updates = goes.0;
        known = goes.1;
        reserve = reserve_kept c.load.ext_reserve (or_second (target_fault parts c.boot.updater c.role.partition) _ e₃);
      }

module _ (parts : List (List ℕ)) (cs : List Component) (e : component_rules parts cs ≡ fine) where
  components_passes : Passes (component_fault parts) (λ earlier d. with_last earlier d.head.name) [] cs
  unfolding component_rules
  components_passes = go cs e
    where
      go : (ds : List Component) → component_rules parts ds ≡ fine → Passes (component_fault parts) (λ earlier d. with_last earlier d.head.name) [] ds
      go [] g = refusal_never _ _ _ g
      go (d ∷ ds) g = fine_passes (component_fault parts) _ _ 0 [] (d ∷ ds) g

  -- 50: there is a component
  pub components_some : 0 < length cs
  unfolding component_rules
  components_some = go cs e
    where
      go : (ds : List Component) → component_rules parts ds ≡ fine → 0 < length ds
      go [] g = refusal_never _ _ _ g
      go (d ∷ ds) g = omega arith

  -- 51: each name once
  pub components_apart : Apart (map (λ (c : Component). c.head.name) cs)
  components_apart =
      passes_apart (component_fault parts) _ (λ earlier. earlier) (λ (c : Component). c.head.name) (λ earlier d. refl) (λ earlier d z. (component_new parts earlier d z).0) [] cs components_passes

  pub components_kept : All (Kept parts) cs
  components_kept = passes_all (Kept parts) (component_fault parts) _ (λ earlier d z. component_kept parts earlier d z) [] cs components_passes

  pub components_names : (d : Component) (i j : ℕ) → i < length cs → j < length cs → same (get_or cs i d).head.name (get_or cs j d).head.name ≡ true → i ≡ j
  components_names d i j l k n = named_one (λ (c : Component). c.head.name) cs d components_apart i j l k n

  pub components_at : (d : Component) (i : ℕ) → i < length cs → Kept parts (get_or cs i d)
  components_at d i l = all_at (Kept parts) cs d components_kept i l

-- ---- all rules

-- no group refuses
pub record Groups (r : Preset) : Type 0 where
  pub front : front_rules r.board r.image ≡ fine
  pub laid : layout r.board.chip r.partitions ≡ fine
  pub made : component_rules (partition_names r.partitions) r.components ≡ fine
  pub built : feature_rules r.components r.applications ≡ fine
  pub applied : application_rules r.partitions r.applications ≡ fine
  pub booted : boot_rule (partition_names r.partitions) r.components ≡ fine

pub rules_groups : (r : Preset) → rules r ≡ fine → Groups r
unfolding rules
rules_groups r e =
    let e₁ = and_second (front_rules r.board r.image) _ e in
    let e₂ = and_second (layout r.board.chip r.partitions) _ e₁ in
    let e₃ = and_second (component_rules (partition_names r.partitions) r.components) _ e₂ in
    let e₄ = and_second (feature_rules r.components r.applications) _ e₃ in
    record {
      front = and_first _ _ e;
      laid = and_first _ _ e₁;
      made = and_first _ _ e₂;
      built = and_first _ _ e₃;
      applied = and_first _ _ e₄;
      booted = and_second (application_rules r.partitions r.applications) _ e₄;
    }

pub groups_rules : (r : Preset) → Groups r → rules r ≡ fine
unfolding rules
groups_rules r g =
    and_fine _ _ g.front (and_fine _ _ g.laid (and_fine _ _ g.made (and_fine _ _ g.built (and_fine _ _ g.applied g.booted))))

-- in an accepted preset each reference of a component names one partition
pub component_meant_lem : (r : Preset) (d : Component) → rules r ≡ fine → (i : ℕ) → i < length r.components → nil? (get_or r.components i d).role.partition ≡ false
    → Meant (name_of (get_or r.components i d).role.partition) r.partitions
component_meant_lem r d e i l n =
    let g : Groups r = rules_groups r e in
    layout_meant r.board.chip r.partitions _ g.laid ((components_at (partition_names r.partitions) r.components g.made d i l).known n)
