-- Level 2 of all entries: what gathering them leaves.
use Rattle.std.specs.Prelude.{ℕ, ◌+◌, ◌-◌, ◌≤◌, Bool, true, Result, List as Seq, [], map, ◌++◌, ◌≡◌, eqb, length, take, replicate, None}
use Rattle.meaning.specs.Base.{pick}
use Rattle.meaning.specs.Refusal.{in_application}
use Rattle.meaning.specs.Fields.{listed}
use Rattle.tree.specs.Doors.{Rooms, fields_of, items}
use Rattle.schema.specs.declared.Partition.{Partition}
use Rattle.schema.specs.Spots.{no_spot}
use Rattle.parse.specs.declared.Refusal.{Refusal}
use Rattle.parse.specs.Entries.{walk, refusal_at, refusal_of, each_component, application_r}
use Rattle.parse.specs.Refused.{component_numbers, application_numbers}
use Rattle.meaning.specs.declared.Refused.{Refused}
use Rattle.turns.specs.declared.EntryRefused.{EntryRefused}
use Rattle.turns.specs.Marks.{any_of, first_hit, at_entry, judged}
use Rattle.layout.specs.Parts.{placed}
use Rattle.validate.specs.declared.Entry.{Entry}
use Rattle.validate.specs.declared.uses.Pair.{Pair}
use Rattle.validate.specs.declared.gather.Gathered.{Gathered}
use Rattle.validate.specs.declared.gather.Applied.{Applied}
use Rattle.validate.specs.Clashes.{clash}
use Rattle.validate.specs.Entries.{component_at, application_at}

abbrev pub blank : Pair
blank = record { «package» = no_spot; features = no_spot; pbp_package = no_spot; pbp_features = no_spot }

abbrev pub either : Bool → Bool → Bool
either a b = pick a true b

-- a fault at a place of a section, 0 for none
abbrev pub fault_at : ℕ → ℕ → ℕ → Refusal
fault_at section number place = pick (eqb number 0) (refusal_at 0 0 0) (refusal_at section number place)

-- how many of n entries were met: all of them, or those before the first that has a fault
abbrev pub met : Refusal → ℕ → ℕ
met fault n = pick (eqb fault.number 0) n fault.place

-- ---- entries that numbers stand for

-- how many, and the first fault of their marks, where a name met twice has this number
pub record Listed (store : Seq ℕ) (number : ℕ) (entry : ℕ → Entry) (ns : Seq ℕ) (count : ℕ) (f : Result (Unit {0}) (EntryRefused Refused)) : Type 0 where
  pub is : count ≡ length ns
  pub few : length ns ≤ 64
  pub own : at_entry f ≡ judged number store (map (λ n. (entry n).mark) ns)

pub record Counted (room : Seq ℕ) (made place end : ℕ) : Type 0 where
  pub rooms : Rooms room made
  pub within : end ≤ made
  pub few : length (items room end place 0) ≤ 64

module _ (room store : Seq ℕ) (made : ℕ) where
  -- as many, their own rules, their packages, and whether one lies in the first partition
  pub record Gathers (parts : Seq (Seq ℕ)) (ns : Seq ℕ) (r : Gathered) : Type 0 where
    pub listed : Listed store 51 (component_at room store made parts) ns r.count r.own
    pub pairs : r.pairs ≡ map (λ n. (component_at room store made parts n).pair) ns ++ replicate (128 - length ns) blank
    pub first : r.first ≡ any_of (λ n. (component_at room store made parts n).first) ns

  -- the first fault of their records, and what is gathered of those before it
  pub record Components (place end : ℕ) (parts : Seq (Seq ℕ)) (r : Gathered) : Type 0 where
    pub fault : r.fault ≡ each_component room store made place end 32
    pub gathers : Gathers parts (take (met r.fault (length (items room end place 0))) (items room end place 0)) r

-- the components that were gathered leave room for the applications' packages
pub record Few (c : Gathered) : Type 0 where
  pub few : c.count ≤ 64

-- a list of a room, and as many packages in front
pub record Followed (room : Seq ℕ) (made end preceding : ℕ) : Type 0 where
  pub rooms : Rooms room made
  pub within : end ≤ made
  pub low : preceding ≤ 64

module _ (room store : Seq ℕ) (made : ℕ) where
  -- as many, their own rules, and the first entry that clashes: their packages stand after those in front
  pub record Follows (ps : Seq Partition) (ns : Seq ℕ) (preceding : ℕ) (front : Seq Pair) (r : Applied) : Type 0 where
    pub listed : Listed store 65 (application_at room store made ps) ns r.count r.own
    pub clashes : r.clash ≡ placed (preceding + length ns) (first_hit (clash room store made) [] (front ++ map (λ n. (application_at room store made ps n).pair) ns))

  -- the list's length is told before its entries; what is gathered is of the first 64, with a fault or without
  pub record Applications (place end : ℕ) (ps : Seq Partition) (preceding : ℕ) (front : Seq Pair) (r : Applied) : Type 0 where
    pub fault : r.fault ≡ refusal_of (listed (application_r room store made 32) in_application 64 (walk room store end place 65 None))
    pub gathers : Follows ps (take 64 (walk room store end place 65 None)) preceding front r

  -- ---- of a preset

  abbrev pub components : Seq ℕ
  components = component_numbers room store made (fields_of room made 1)

  abbrev pub applications : Seq ℕ
  applications = application_numbers room store made (fields_of room made 1) 64
