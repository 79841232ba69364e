-- Texts, computed on both levels.
use Rattle.std.specs.Prelude.{true, [], ◌∷◌, ◌≡◌, refl, pos, Some, None}
use Rattle.meaning.specs.Base.{ascii}
use Rattle.meaning.specs.Limits.{of01}
use Rattle.meaning.specs.Refusal.{accepted}
use Rattle.meaning.specs.Tree.{str, int, boolean, array, table, none', item, empty, entry}
use Rattle.meaning.specs.Document as meant
use Rattle.tree.specs.Order.{has_key, before, follows, better, next}
use Rattle.values.specs.Doc as rooms
use Rattle.agree.specs.Order.{step_s}
use Rattle.agree.specs.Examples.{added, again, replaced, three}

pub added_tree : meant.document of01 added
    ≡ accepted (record {
      root = entry (ascii "a") (array (item (int (pos 1)) (item (table (entry (ascii "b") (table (entry (ascii "c") (str (ascii "x")) empty)) empty)) none'))) empty;
      bytes = ascii "aaxbc";
      made = 5;
    })
unfolding meant.computes
added_tree = refl

pub added_rooms : rooms.document_s of01 added
    ≡ accepted (record {
      bytes = ascii "aaxbc";
      slots = record { kind = 4; parent = 1; key = 0; len = 1; «data» = 0 }
          ∷ record { kind = 2; parent = 2; key = 0; len = 0; «data» = 1 }
          ∷ record { kind = 5; parent = 2; key = 0; len = 0; «data» = 0 }
          ∷ record { kind = 1; parent = 6; key = 4; len = 1; «data» = 65538 }
          ∷ record { kind = 5; parent = 4; key = 3; len = 1; «data» = 0 }
          ∷ [];
      here = 4;
    })
unfolding rooms.computes
added_rooms = refl

pub replaced_tree : meant.document of01 replaced ≡ accepted (record { root = entry (ascii "a") (table (entry (ascii "b") (boolean true) empty)) empty; bytes = ascii "aab"; made = 3 })
unfolding meant.computes
replaced_tree = refl

pub replaced_rooms : rooms.document_s of01 replaced
    ≡ accepted (record {
      bytes = ascii "aab";
      slots = record { kind = 2; parent = 1; key = 0; len = 1; «data» = 1 }
          ∷ record { kind = 5; parent = 1; key = 1; len = 1; «data» = 0 }
          ∷ record { kind = 3; parent = 3; key = 2; len = 1; «data» = 1 }
          ∷ [];
      here = 3;
    })
unfolding rooms.computes
replaced_rooms = refl

pub again_rooms : rooms.document_s of01 again ≡ accepted (record { bytes = ascii "bab"; slots = three; here = 1 })
unfolding rooms.computes
again_rooms = refl

pub again_walked : (step_s (ascii "bab") three 1 None ≡ Some 1) × (step_s (ascii "bab") three 1 (Some 1) ≡ Some 2) × (step_s (ascii "bab") three 1 (Some 2) ≡ None)
unfolding has_key before follows better next
again_walked = (refl, refl, refl)
