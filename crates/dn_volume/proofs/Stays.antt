-- An operation in flight stays as far as it is through an event of another actor.
use Rattle.std.proofs.Common.{◌≡◌, inl, ℕ, zero, suc, ◌+◌, ◌-◌, ◌/◌, ◌%◌, ◌^◌, ◌<◌, ◌≤◌, List, [], ◌∷◌, ◌++◌, length, refl, sym, ◌∙◌, ap}
use Rattle.std.specs.Prelude.{max, not, ◌&&◌, ◌==◌, nat_lt, is_some, if◌then◌else◌, map, Option, Some, None, Contains}
use Rattle.std.specs.List.{range_with_len}
use Rattle.dn_model.specs.Maps.{Mapping, size_of}
use Rattle.dn_model.specs.Log.{Log}
use Rattle.dn_model.specs.Disk.{Disk, Inode, maps, maps_by_use}
use Rattle.dn_model.specs.Files.{bytes, mapped_byte, named}
use Rattle.dn_model.specs.History.{needed, touched, extra, refilled, inode_of, log_of}
use Rattle.dn_model.specs.declared.op.Op.{Op}
use Rattle.dn_model.specs.declared.op.Op.TheVariants.{Create, Write, Read, Cut, Remove, Rename, Size, List as ListAll}
use Rattle.dn_model.specs.Valid.{IsValid}
use Rattle.law_write.proofs.MappedPlaces.{maps-in_file}
use Rattle.dn_volume.specs.declared.flight.Flight.{Flight}
use Rattle.dn_volume.specs.declared.flight.DataChange.{DataChange}
use Rattle.dn_volume.specs.Planned.{slot_of, row_slots, gone_from, PlansData}
use Rattle.dn_volume.specs.Rely.{KeepsRest}

pub map-same : {X : Type 0} (f g : ℕ → X) (xs : List ℕ) → ((x : ℕ) → f x ≡ g x) → map f xs ≡ map g xs
map-same f g [] same = refl
map-same f g (x ∷ xs) same = ap (λ y. y ∷ map f xs) (same x) ∙ ap (λ ys. g x ∷ ys) (map-same f g xs same)

-- of one inode that the event leaves alone
module _ (inodes pages : List ℕ) (d e : Disk) (valid : IsValid d) (rest : KeepsRest inodes pages d e) (ino : ℕ) (in_table : ino < d.geometry.inodes)
    (out : Contains inodes ino → ⊥) where
  pub node_same : e.inode ino ≡ d.inode ino
  node_same = rest.inode ino out

  pub log_same : (e.inode ino).log ≡ (d.inode ino).log
  log_same = ap (λ (n : Inode). n.log) node_same

  pub maps_same : (idx : ℕ) → maps e ino idx ≡ maps d ino idx
  unfolding maps
  maps_same idx = ap (λ (n : Inode). maps_by_use n.use_of n.log idx) node_same

  slot_same : (idx : ℕ) (m : Option Mapping) → maps d ino idx ≡ m → slot_of e m ≡ slot_of d m
  slot_same idx None is = refl
  slot_same idx (Some m) is = rest.slots ino idx m in_table out is

  pub row_slots_same : (n from : ℕ) → row_slots e ino from n ≡ row_slots d ino from n
  unfolding row_slots
  row_slots_same zero from = refl
  row_slots_same (suc n) from =
      ap (λ (m : Option Mapping). slot_of e m ++ row_slots e ino (from + 1) n) (maps_same from)
      ∙ ap (λ (xs : List ℕ). xs ++ row_slots e ino (from + 1) n) (slot_same from (maps d ino from) refl)
      ∙ ap (λ (xs : List ℕ). slot_of d (maps d ino from) ++ xs) (row_slots_same n (from + 1))

  byte_same : (idx k : ℕ) (m : Option Mapping) → maps d ino idx ≡ m → mapped_byte e k m ≡ mapped_byte d k m
  byte_same idx k None is = refl
  byte_same idx k (Some m) is =
      ap (λ (v : ℕ). v / 256 ^ (k % 8) % 256) (rest.word m.block (k / 8) (inl (record {
        ino = ino;
        idx = idx;
        maps_to = record { in_table = in_table; in_file = maps-in_file d valid ino idx m in_table is; by = m; is = is; block = refl };
      })))

  pub bytes_same : bytes e ino ≡ bytes d ino
  unfolding bytes
  bytes_same =
      ap (λ (log : Log). map (λ j. mapped_byte e (j % 4096) (maps e ino (j / 4096))) (range_with_len 0 (size_of log))) log_same
      ∙ map-same (λ j. mapped_byte e (j % 4096) (maps e ino (j / 4096))) (λ j. mapped_byte d (j % 4096) (maps d ino (j / 4096)))
      (range_with_len 0 (size_of (d.inode ino).log))
      (λ j. ap (mapped_byte e (j % 4096)) (maps_same (j / 4096)) ∙ byte_same (j / 4096) (j % 4096) (maps d ino (j / 4096)) refl)

  pub log_of_same : (name : List ℕ) → named d name ≡ Some ino → named e name ≡ Some ino → log_of e name ≡ log_of d name
  log_of_same name was is =
      ap (λ (r : Option ℕ). (e.inode (inode_of r)).log) is ∙ log_same ∙ sym (ap (λ (r : Option ℕ). (d.inode (inode_of r)).log) was)

  refilled_same : (name : List ℕ) (size : ℕ) → named d name ≡ Some ino → named e name ≡ Some ino → refilled e name size ≡ refilled d name size
  refilled_same name size was is =
      ap (λ (log : Log). if not (size % 4096 == 0) && nat_lt size (size_of log) && is_some (maps e (inode_of (named e name)) (size / 4096)) then 1
      else 0) (log_of_same name was is)
      ∙ ap (λ (m : Option Mapping). if not (size % 4096 == 0) && nat_lt size (size_of (log_of d name)) && is_some m then 1 else 0)
      (ap (λ (r : Option ℕ). maps e (inode_of r) (size / 4096)) is ∙ maps_same (size / 4096) ∙ sym
      (ap (λ (r : Option ℕ). maps d (inode_of r) (size / 4096)) was))

  leads_same : (name : List ℕ) → 1 ≤ ino → named d name ≡ Some ino → named e name ≡ Some ino
  leads_same name file was = (rest.named_so ino name file out).1 was

-- the plan of a write or a cut stands
module _ (inodes pages : List ℕ) (d e : Disk) (valid : IsValid d) (rest : KeepsRest inodes pages d e) (f : Flight) (c : DataChange)
    (file : 1 ≤ f.ino) (in_table : f.ino < d.geometry.inodes) (out : Contains inodes f.ino → ⊥) where
  pub plans_same : (op : Op) → PlansData d f c op → PlansData e f c op
  plans_same (Create name) plans = absurd plans
  plans_same (Write name at text) plans = record {
    held = plans.held;
    legal = plans.legal;
    leads = leads_same inodes pages d e valid rest f.ino in_table out name file plans.leads;
    some = plans.some;
    short = plans.short;
    fits = plans.fits;
    first = plans.first;
    places = plans.places;
    size_is = plans.size_is ∙ ap (λ (log : Log). max (size_of log) (at + length text))
        (sym (log_same inodes pages d e valid rest f.ino in_table out));
    rows = plans.rows ∙ sym (row_slots_same inodes pages d e valid rest f.ino in_table out (length c.blocks.items) c.first);
  }
  plans_same (Read name at count) plans = absurd plans
  plans_same (Cut name to) plans = record {
    held = plans.held;
    legal = plans.legal;
    leads = leads_same inodes pages d e valid rest f.ino in_table out name file plans.leads;
    fits = plans.fits;
    first = plans.first;
    places = plans.places ∙ sym (refilled_same inodes pages d e valid rest f.ino in_table out name to plans.leads
        (leads_same inodes pages d e valid rest f.ino in_table out name file plans.leads));
    size_is = plans.size_is;
    rows = plans.rows ∙ sym (row_slots_same inodes pages d e valid rest f.ino in_table out (4096 - gone_from to c.blocks.items)
        (gone_from to c.blocks.items));
  }
  plans_same (Remove name) plans = absurd plans
  plans_same (Rename from to) plans = absurd plans
  plans_same (Size name) plans = absurd plans
  plans_same ListAll plans = absurd plans

  pub needed_same : (op : Op) → PlansData d f c op → needed e op ≡ needed d op
  needed_same (Create name) plans = absurd plans
  needed_same (Write name at text) plans =
      ap (λ (log : Log). touched at (length text) + extra (touched at (length text)) log) (log_of_same inodes pages d e valid rest f.ino in_table out
      name plans.leads (leads_same inodes pages d e valid rest f.ino in_table out name file plans.leads))
  needed_same (Read name at count) plans = absurd plans
  needed_same (Cut name to) plans =
      let leads = leads_same inodes pages d e valid rest f.ino in_table out name file plans.leads in
      ap (λ (n : ℕ). n + extra (n + 1) (log_of e name)) (refilled_same inodes pages d e valid rest f.ino in_table out name to plans.leads leads)
      ∙ ap (λ (log : Log). refilled d name to + extra (refilled d name to + 1) log) (log_of_same inodes pages d e valid rest f.ino in_table out name
      plans.leads leads)
  needed_same (Remove name) plans = absurd plans
  needed_same (Rename from to) plans = absurd plans
  needed_same (Size name) plans = absurd plans
  needed_same ListAll plans = absurd plans
