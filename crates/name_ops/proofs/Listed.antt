-- What a List answers.
use Rattle.std.proofs.Common.{◌≡◌, ℕ, List, refl, sym, subst, Option, Some, None}
use Rattle.std.specs.Prelude.{◌↔◌, IsSome}
use Rattle.std.specs.Option.{option_map}
use Rattle.std.proofs.lemmas.List.Elements.{All-nil}
use Rattle.pm_device.specs.State.{State}
use Rattle.log_entry.specs.Name.{IsLegal}
use Rattle.file_index.specs.Index.{ListsNames}
use Rattle.dn_model.specs.Disk.{Disk}
use Rattle.dn_model.specs.Files.{named, bytes}
use Rattle.dn_model.specs.Apply.{grants}
use Rattle.dn_model.specs.declared.op.Op.{Op}
use Rattle.dn_model.specs.declared.op.Op.TheVariants.{Create, Write, Read, Cut, Remove, Rename, Size, List as ListAll}
use Rattle.dn_model.specs.declared.op.Reply.TheVariants.{Names as ListedNames}
use Rattle.dn_volume.specs.declared.flight.Flight.{Flight}
use Rattle.dn_volume.specs.declared.flight.Change.{Change}
use Rattle.dn_volume.specs.declared.flight.Change.TheVariants.{Data, Names}
use Rattle.dn_volume.specs.declared.flight.DataChange.{DataChange}
use Rattle.dn_volume.specs.declared.flight.NameChange.{NameChange}
use Rattle.dn_volume.specs.declared.volume.Parts.{Parts}
use Rattle.dn_volume.specs.Parties.{Flies}
use Rattle.dn_volume.specs.Planned.{PlansData}
use Rattle.dn_volume.specs.Flights.{IsFlightOf}
use Rattle.dn_volume.specs.Agrees.{IsVolume}
use Rattle.dn_volume.specs.Begins.{IsAnswerOf, of_files, IsNamesOp}

mapped : (d : Disk) (o : Option ℕ) → IsSome o ↔ IsSome (option_map (bytes d) o)
mapped d None = ((λ some. some), (λ some. some))
mapped d (Some i) = ((λ some. refl), (λ some. refl))

pub listing : (d : Disk) (b : Parts) (s : State) → IsVolume d b s → (names : List (List ℕ)) → ListsNames b.names.map names
    → IsAnswerOf d b ListAll (ListedNames names)
listing d b s v names lists = of_files (ListedNames names) (grants (All-nil IsLegal) tt tt tt (
  names,
  record {
    sorted = lists.in_order;
    files = λ name. (
      (λ has. (mapped d (named d name)).0 (subst IsSome (v.names.leads name) ((lists.all name).0 has))),
      (λ some. (lists.all name).1 (subst IsSome (sym (v.names.leads name)) ((mapped d (named d name)).1 some))),
    );
  },
  refl,
)) (λ granted. tt)

-- An operation on names in flight changes names.
no_data : (d : Disk) (f : Flight) (c : DataChange) (op : Op) → IsNamesOp op → PlansData d f c op → ⊥
no_data d f c (Create name) kind plans = plans
no_data d f c (Write name at text) kind plans = kind
no_data d f c (Read name at count) kind plans = kind
no_data d f c (Cut name to) kind plans = kind
no_data d f c (Remove name) kind plans = plans
no_data d f c (Rename from to) kind plans = plans
no_data d f c (Size name) kind plans = kind
no_data d f c ListAll kind plans = kind

pub changes_names : (d : Disk) (b : Parts) (s : State) → IsVolume d b s → (who : ℕ) (f : Flight) → Flies b who f → IsNamesOp f.op
    → (c : NameChange) × (f.change ≡ Names c)
changes_names d b s v who f flies kind = by f.change refl (v.flights.each who f flies)
  where
    by : (x : Change) → f.change ≡ x → IsFlightOf d who f s x → (c : NameChange) × (f.change ≡ Names c)
    by (Data c) is flight = absurd (no_data d f c f.op kind flight.plans)
    by (Names c) is flight = (c, is)
