-- Pieces with a byte between them: what splits at that byte gets them back, and what joins them gets the text back.
use Prim.Native.Nat.{ℕ}
use mathlib.Core.Bool.{Bool, true, false}
use mathlib.Core.List.{List, [], ◌∷◌, ◌++◌}
use mathlib.Core.Path.{◌≡◌, refl, ap, ◌∙◌}
use borrow.Author.Tests.{eqb-true, eq-eqb}
use lib.Dec.{eqb}
use Rattle.meaning.specs.Base.{on_first, split, cut}
use Rattle.laws.specs.Cases.{on}
use Rattle.laws.specs.Never.{NonEmpty}
use Rattle.laws.specs.Segments.{Without}

abbrev pub join_by : ℕ → List (List ℕ) → List ℕ
join_by c [] = []
join_by c (p ∷ []) = p
join_by c (p ∷ q ∷ ps) = p ++ (c ∷ join_by c (q ∷ ps))

pub join_cons : (c : ℕ) (p : List ℕ) (ps : List (List ℕ)) → NonEmpty ps → join_by c (p ∷ ps) ≡ p ++ (c ∷ join_by c ps)
join_cons c p [] h = absurd h
join_cons c p (q ∷ ps) h = refl

join_first : (c b : ℕ) (ps : List (List ℕ)) → join_by c (on_first b ps) ≡ b ∷ join_by c ps
join_first c b [] = refl
join_first c b (p ∷ []) = refl
join_first c b (p ∷ q ∷ ps) = refl

module _ {S : Type 0} (start : S) (next : S → ℕ → S) (sep : S → ℕ → Bool) (c : ℕ) where
  -- p is one piece from the state st on, and c after it parts
  abbrev pub Unparted : S → List ℕ → Type 0
  Unparted st [] = sep st c ≡ true
  Unparted st (b ∷ p) = (sep st b ≡ false) × Unparted (next st b) p

  abbrev pub AllUnparted : List (List ℕ) → Type 0
  AllUnparted [] = Unit {0}
  AllUnparted (p ∷ ps) = Unparted start p × AllUnparted ps

  last_piece_lem : (st : S) (p : List ℕ) → Unparted st p → split start next sep st p ≡ p ∷ []
  last_piece_lem st [] h = refl
  last_piece_lem st (b ∷ p) h = rw (h.0, last_piece_lem (next st b) p h.1)

  first_piece : (st : S) (p t : List ℕ) → Unparted st p → split start next sep st (p ++ (c ∷ t)) ≡ p ∷ split start next sep start t
  first_piece st [] t h = rw h
  first_piece st (b ∷ p) t h = rw (h.0, first_piece (next st b) p t h.1)

  -- what is joined is split again
  pub split_joined : (ps : List (List ℕ)) → NonEmpty ps → AllUnparted ps → split start next sep start (join_by c ps) ≡ ps
  split_joined [] n h = absurd n
  split_joined (p ∷ []) n h = last_piece_lem start p h.0
  split_joined (p ∷ q ∷ ps) n h = first_piece start p (join_by c (q ∷ ps)) h.0 ∙ ap (λ (r : List (List ℕ)). p ∷ r) (split_joined (q ∷ ps) tt h.1)

  split_some : (st : S) (s : List ℕ) → NonEmpty (split start next sep st s)
  split_some st [] = tt
  split_some st (b ∷ s) = on (sep st b) (λ e. rw e tt) (λ e. rw e (first (split start next sep (next st b) s)))
    where
      first : (ps : List (List ℕ)) → NonEmpty (on_first b ps)
      first [] = tt
      first (p ∷ ps) = tt

  -- what is split is joined again, where nothing but c parts
  pub joined_split : ((st : S) (b : ℕ) → sep st b ≡ true → b ≡ c) → (st : S) (s : List ℕ) → join_by c (split start next sep st s) ≡ s
  joined_split only st [] = refl
  joined_split only st (b ∷ s) =
      on (sep st b)
      (λ e. rw (e, join_cons c [] (split start next sep start s) (split_some start s), joined_split only start s, only st b e))
      (λ e. rw (e, join_first c b (split start next sep (next st b) s), joined_split only (next st b) s))

-- ---- cut is a split that needs no state

abbrev still : Unit {0} → ℕ → Unit {0}
still st b = tt

module _ (c : ℕ) where
  abbrev is_byte : Unit {0} → ℕ → Bool
  is_byte st b = eqb b c

  cut_split : (s : List ℕ) → cut c s ≡ split tt still is_byte tt s
  cut_split [] = refl
  cut_split (b ∷ s) = rw (cut_split s)

  unparted : (p : List ℕ) → Without c p → Unparted tt still is_byte c tt p
  unparted [] h = eq-eqb c c refl
  unparted (b ∷ p) h = (h.0, unparted p h.1)

  abbrev pub AllWithout : List (List ℕ) → Type 0
  AllWithout [] = Unit {0}
  AllWithout (p ∷ ps) = Without c p × AllWithout ps

  pub cut_joined : (ps : List (List ℕ)) → NonEmpty ps → AllWithout ps → cut c (join_by c ps) ≡ ps
  cut_joined ps n h = cut_split (join_by c ps) ∙ split_joined tt still is_byte c ps n (each ps h)
    where
      each : (qs : List (List ℕ)) → AllWithout qs → AllUnparted tt still is_byte c qs
      each [] h = tt
      each (q ∷ qs) h = (unparted q h.0, each qs h.1)

  pub joined_cut : (s : List ℕ) → join_by c (cut c s) ≡ s
  joined_cut s = ap (join_by c) (cut_split s) ∙ joined_split tt still is_byte c (λ _ b e. eqb-true b c e) tt s
