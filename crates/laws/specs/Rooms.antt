-- Rooms that take every text within the limits: what a text comes to there does not depend on how large they are.
use Rattle.std.specs.Prelude.{ℕ, ◌*◌, ◌≤◌, List, ◌≡◌, ltb}
use Rattle.std.proofs.Common.{sym, ◌∙◌}
use Rattle.std.proofs.Math.Path.{subst}
use borrow.Author.Tests.{ltb-false, le-ltb}
use Rattle.meaning.specs.declared.Limits.{Limits}
use Rattle.meaning.specs.Limits.{value_bytes}
use Rattle.meaning.specs.Refusal.{accepted, accepted_then}
use Rattle.meaning.specs.Document.{Parsed, document, in_rooms}
use Rattle.meaning.specs.Records.{preset_of}
use Rattle.meaning.specs.Rules.{rules}
use Rattle.meaning.specs.Preset.{Read, read, validate}
use Rattle.laws.specs.Cases.{on}
use Rattle.laws.specs.Answers.{accepted_one, refused_never, after_accepted}

module _ (lim : Limits) where
  -- 17 does not refuse them
  pub record Suffices (store tree : ℕ) : Type 0 where
    pub store_takes : lim.text ≤ store
    pub tree_takes : value_bytes * lim.values ≤ tree

  module _ (store tree : ℕ) (text : List ℕ) where
    -- in such rooms a text is what it is without rooms
    rooms_alike : Suffices store tree → in_rooms lim store tree text ≡ document lim text
    unfolding in_rooms
    rooms_alike h = rw (le-ltb store lim.text h.store_takes, le-ltb tree (value_bytes * lim.values) h.tree_takes)

    -- in others there is no tree
    rooms_suffice_lem : (p : Parsed) → in_rooms lim store tree text ≡ accepted p → Suffices store tree
    unfolding in_rooms
    rooms_suffice_lem p e =
        on (ltb store lim.text) (λ t. refused_never _ _ _ p (rw t at e))
        (λ t. on (ltb tree (value_bytes * lim.values)) (λ u. refused_never _ _ _ p (rw (t, u) at e))
        (λ u. record { store_takes = ltb-false store lim.text t; tree_takes = ltb-false tree (value_bytes * lim.values) u }))

    module _ (name : List ℕ) (x : Read) where
      pub valid_read : validate lim store tree name text ≡ accepted x → read lim store tree name text ≡ accepted x
      unfolding validate
      valid_read e =
          let y = after_accepted (λ (r : Read). accepted_then (rules r.preset) (λ u. accepted r)) (read lim store tree name text) x e in
          let u = after_accepted (λ u. accepted y.0) (rules y.0.preset) x y.2 in
          y.1 ∙ u.2

      read_rooms : read lim store tree name text ≡ accepted x
          → (in_rooms lim store tree text ≡ accepted x.parsed) × (preset_of lim name x.parsed.root ≡ accepted x.preset)
      unfolding read
      read_rooms e =
          let y = after_accepted (λ (p : Parsed). accepted_then (preset_of lim name p.root) (λ r. accepted (record { parsed = p; preset = r }))) (in_rooms lim store tree text) x e in
          let z = after_accepted (λ r. accepted (record { parsed = y.0; preset = r })) (preset_of lim name y.0.root) x y.2 in
          subst (λ (q : Read). (in_rooms lim store tree text ≡ accepted q.parsed) × (preset_of lim name q.parsed.root ≡ accepted q.preset))
          (accepted_one (record { parsed = y.0; preset = z.0 }) x z.2) (y.1, z.1)

      -- what is read, is read from the text's tree
      pub read_parts : read lim store tree name text ≡ accepted x → (document lim text ≡ accepted x.parsed) × (preset_of lim name x.parsed.root ≡ accepted x.preset)
      read_parts e =
          let h = read_rooms e in
          (sym (rooms_alike (rooms_suffice_lem x.parsed h.0)) ∙ h.0, h.1)

  -- what is accepted in some rooms is accepted in all that suffice, and the same is read there
  pub valid_anywhere : (store tree store₂ tree₂ : ℕ) (name text : List ℕ) (x : Read) → validate lim store tree name text ≡ accepted x → Suffices store₂ tree₂
      → validate lim store₂ tree₂ name text ≡ accepted x
  unfolding validate read
  valid_anywhere store tree store₂ tree₂ name text x e h =
      let p = (read_rooms store tree text name x (valid_read store tree text name x e)).0 in
      let d = rooms_alike store tree text (rooms_suffice_lem store tree text x.parsed p) in
      rw (rooms_alike store₂ tree₂ text h) (rw d at e)
