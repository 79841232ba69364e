-- The entry of a component and of an application: one law for each.
use Prim.Native.Nat.{ℕ}
use mathlib.Core.Bool.{Bool, false}
use mathlib.Core.List.{List, map}
use mathlib.Core.Path.{◌≡◌, sym}
use lib.ListN.{length, length-map}
use Rattle.std.proofs.Common.{Option, Result, Ok}
use Rattle.std.specs.Option.{is_some}
use Rattle.std.specs.List.{position}
use Rattle.meaning.specs.declared.Refused.{Refused}
use Rattle.meaning.specs.Base.{pick, nil?}
use Rattle.meaning.specs.Rules.{name_of}
use Rattle.tree.specs.declared.Span.{Span}
use Rattle.tree.specs.Steps.{KeyIs}
use Rattle.schema.specs.declared.spot.Spot.{Spot}
use Rattle.schema.specs.Spots.{bytes_spot}
use Rattle.schema.specs.Texts.{start_of, length_of}
use Rattle.schema.specs.declared.Partition.{Partition}
use Rattle.schema.specs.declared.Component.{Component}
use Rattle.parse.specs.Entries as parsed
use Rattle.parse.specs.declared.component.ComponentRead.{ComponentRead}
use Rattle.parse.specs.declared.application.ApplicationRead.{ApplicationRead}
use Rattle.layout.specs.Parts.{part_name, rank, placed, is_first, bears, position_placed}
use Rattle.validate.specs.declared.Entry.{Entry}
use Rattle.validate.specs.declared.uses.Pair.{Pair}
use Rattle.validate.specs.Clashes.{pair_of_component, pair_of_application}
use Rattle.validate.specs.Entries as entries
use Rattle.validate.specs.Entries.{kept, referred, late_checked, component_entry, application_entry}
use Rattle.validate.proofs.Pairing.{key_spot_lem}

module _ (store : List ℕ) (fault : ℕ) (c : Component) (items : List Partition) (s : List ℕ) (e : s ≡ kept store c.role.partition) (name : List ℕ) (g : name ≡ name_of s)
    (at : Option ℕ) (f : at ≡ position (bears name store) items) where
  place_is : placed (length (map (part_name store) items)) (rank (referred store c.role.partition) (map (part_name store) items)) ≡ at
  place_is = rw (length-map items (part_name store), ← e, ← g) (sym (position_placed name store items at f))

  pub component_done : (known : Bool) (late : Result (Unit {0}) Refused) (pair : Pair) (front : Bool) (from len : ℕ)
      → known ≡ is_some at → late ≡ late_checked store known c → pair ≡ pair_of_component store c → front ≡ pick (nil? s) false (is_first (length items) at)
      → from ≡ start_of c.head.name → len ≡ length_of c.head.name
      → record { fault = fault; mark = record { from = from; len = len; early = Ok tt; late = late }; pair = pair; first = front } ≡ component_entry store (map (part_name store) items) fault c
  unfolding component_entry
  component_done known late pair front from len k l p q a b =
      rw (place_is, length-map items (part_name store), ← e, ← k, ← l, ← p, ← q, ← a, ← b)

pub component_read_lem : (room store : List ℕ) (made n : ℕ) (parts : List (List ℕ)) (r : ComponentRead) (x : Entry) → r ≡ parsed.component_at room store made n 32
    → x ≡ component_entry store parts r.fault r.component → x ≡ entries.component_at room store made parts n
component_read_lem room store made n parts r x e h = rw (h, e)

pub application_read_lem : (room store : List ℕ) (made n : ℕ) (ps : List Partition) (r : ApplicationRead) (k : Span) (key : Spot) (pair : Pair) (x : Entry)
    → r ≡ parsed.application_at room store made n 32 → KeyIs room n k → key ≡ bytes_spot k.from k.len → pair ≡ pair_of_application key r.application.features
    → x ≡ application_entry store ps r.fault pair r.application → x ≡ entries.application_at room store made ps n
application_read_lem room store made n ps r k key pair x e f d g h = rw (h, g, key_spot_lem room n k key f d, e)
