-- What the records of the rooms stand for: 01's records, with their texts spelled out.
use Rattle.std.specs.Prelude.{ℕ, ◌≤◌, List, ◌≡◌}
use Rattle.meaning.specs.Refusal.{R, ok, bad}
use Rattle.meaning.specs.Features.{ordered}
use Rattle.meaning.specs.Schema as meant
use Rattle.schema.specs.declared.Features.{Features}
use Rattle.schema.specs.declared.Board.{Board}
use Rattle.schema.specs.declared.Image.{Image}
use Rattle.schema.specs.declared.Partition.{Partition}
use Rattle.schema.specs.declared.Head.{Head}
use Rattle.schema.specs.declared.Role.{Role}
use Rattle.schema.specs.declared.Boot.{Boot}
use Rattle.schema.specs.declared.Load.{Load}
use Rattle.schema.specs.declared.Component.{Component}
use Rattle.schema.specs.declared.Application.{Application}
use Rattle.schema.specs.Words.{chip_meant, media_meant, kind_meant}
use Rattle.schema.specs.Texts.{clip, spelled, optional, amount}
use Rattle.features.specs.Pieces.{pieces}
use Rattle.features.specs.Ordered.{bytes_all}

-- ---- a reader with a fault, 0 for none, says what a definition says
abbrev pub Got : {X : Type 0} → R X → ℕ → X → Type 0
Got (ok x) fault y = (fault ≡ 0) × (y ≡ x)
Got (bad n) fault y = (fault ≡ n) × (1 ≤ n)

-- ---- records
module _ (room store : List ℕ) (made : ℕ) where
  -- a feature list in byte order, each once
  abbrev pub feature_list : Features → List (List ℕ)
  feature_list f = ordered (bytes_all store (pieces room store made f))

  module _ (name : List ℕ) where
    abbrev pub board_meant : Board → meant.Board
    board_meant b = record { name = spelled store name b.name; chip = chip_meant b.chip; target = spelled store name b.target; profile = spelled store name b.profile }

    abbrev pub image_meant : Image → meant.Image
    image_meant i =
        record {
          platform = spelled store name i.platform;
          product = spelled store name i.product;
          version = spelled store name i.version;
          media = media_meant i.media;
          media_dev_id = i.media_dev_id;
          media_id = spelled store name i.media_id;
          boot_app = spelled store name i.app;
        }

    abbrev pub partition_meant : Partition → meant.Partition
    partition_meant p = record { name = clip p.from p.len store; offset = p.offset; size = p.size; locked = p.locked }

    abbrev pub head_meant : Head → meant.Head
    head_meant h =
        record {
          kind = kind_meant h.kind;
          name = spelled store name h.name;
          pack = optional store name h.«package»;
          bin = optional store name h.bin;
          file = optional store name h.file;
          filename = spelled store name h.filename;
        }

    abbrev pub role_meant : Role → meant.Role
    role_meant r =
        record {
          features = feature_list r.features;
          pbp_features = feature_list r.pbp_features;
          partition = spelled store name r.partition;
          attr = spelled store name r.attr;
          target_attr = optional store name r.target_attr;
          target_filename = optional store name r.target_filename;
        }

    abbrev pub boot_meant : Boot → meant.Boot
    boot_meant b =
        record {
          updater = b.updater;
          ram = amount b.ram;
          pbp = optional store name b.pbp;
          pbp_pack = optional store name b.pbp_package;
          private = optional store name b.private;
        }

    abbrev pub load_meant : Load → meant.Load
    load_meant l =
        record {
          load_address = amount l.load_address;
          entry_point = amount l.entry_point;
          entry_offset = amount l.entry_offset;
          header_version = amount l.header_version;
          with_ext = l.with_ext;
          ext_reserve = l.ext_reserve;
        }

    abbrev pub component_meant : Component → meant.Component
    component_meant c = record { head = head_meant c.head; role = role_meant c.role; boot = boot_meant c.boot; load = load_meant c.load }

    abbrev pub application_meant : Application → meant.Application
    application_meant a =
        record {
          pack = spelled store name a.«package»;
          name = spelled store name a.name;
          partition = spelled store name a.partition;
          filename = spelled store name a.filename;
          attr = spelled store name a.attr;
          features = feature_list a.features;
          load_address = amount a.load_address;
          entry_offset = amount a.entry_offset;
        }
