-- The disk that an image stands for, where it has no fault: what was read up to the links, with the chains that
-- were read, and pointers and pages as their words are.
use Rattle.std.proofs.Common.{◌≡◌, ◌≢◌, ℕ, ◌+◌, ◌*◌, ◌<◌, List, length, refl, sym, ◌∙◌, ap, subst, arith}
use Rattle.std.specs.Prelude.{slice_index}
use Rattle.pm_device.specs.Reading.{Reads}
use Rattle.pm_layout.specs.declared.Geometry.{Geometry}
use Rattle.pm_layout.specs.Geometry.{IsAccepted, pointer_word}
use Rattle.dn_model.specs.Rolled.{rolled, IsGate}
use Rattle.dn_model.specs.Table.{Row}
use Rattle.dn_model.specs.Disk.{
  Disk,
  HeadSays,
  at_magic,
  at_version,
  at_pages,
  at_inodes,
  at_gate,
  InodesSay,
  at_state,
  at_cut,
  PointersSay,
  PagesSay,
  DiskSays,
  of_head,
  of_inodes,
  of_logs,
  of_chains,
  of_pointers,
  of_pages,
  rows,
}
use Rattle.dn_model.specs.Counts.{Near, IsFree}
use Rattle.dn_model.specs.Files.{named}
use Rattle.dn_model.specs.Valid.{IsSingle, IsValid}
use Rattle.dn_model.specs.Image.{StandsFor}
use Rattle.dn_model.specs.Faults.{HasGeometry, HasInodes, HasLogs, HasLinks, HasTable, HasPointers}
use Rattle.law_unique.proofs.SameMeaning.{linked-same}
use Rattle.law_unique.proofs.Stages.{rolled_low}
use Rattle.law_unique.proofs.RolledSame.{rolled_gate}
use Rattle.law_table_read.specs.Tables.{HasChains}

abbrev pub read_disk : List ℕ → Disk → (ℕ → List Row) → Disk
read_disk r d chain = record {
  geometry = d.geometry;
  inode = d.inode;
  chain = chain;
  pointer = λ page. slice_index r (pointer_word d.geometry page);
  word = λ page k. slice_index r (512 * page + k);
}

module _ (c : List ℕ) (d : Disk) (chain : ℕ → List Row) where
  abbrev e : Disk
  e = read_disk (rolled c) d chain

  inodes_back : (a v : ℕ) → InodesSay e a v → InodesSay d a v
  inodes_back a v (at_state ino lt at is) = at_state ino lt at is
  inodes_back a v (at_cut ino cut lt dying at is) = at_cut ino cut lt dying at is

  inodes_kept : HasInodes c d → HasInodes c e
  inodes_kept x = record {
    gate = x.gate;
    geometry = x.geometry;
    reads = λ a v says. x.reads a v (inodes_back a v says);
    root = x.root;
    cuts = x.cuts;
  }

  logs_kept : HasLogs c d → HasLogs c e
  logs_kept x = record {
    inodes = inodes_kept x.inodes;
    reads = λ a v says. x.reads a v (record { ino = says.ino; in_table = says.in_table; used = says.used; says = says.says });
    logs = x.logs;
  }

  names_kept : (name : List ℕ) → named d name ≡ named e name
  unfolding named
  names_kept name = refl

  links_kept : HasLinks c d → HasLinks c e
  links_kept x = record { logs = logs_kept x.logs; links = λ ino low lt. linked-same d e names_kept ino (d.inode ino).use_of (x.links ino low lt) }

pub has_table : (c : List ℕ) (d : Disk) → HasLinks c d → (chains : HasChains d.geometry (rolled c)) → HasTable c (read_disk (rolled c) d chains.chain)
unfolding rows
has_table c d x chains = record {
  links = links_kept c d chains.chain x;
  reads = λ a v says. chains.reads says.prefix says.direct a v says.says;
  table = λ prefix k row direct at. chains.are_rows prefix k row direct at;
  rows_apart = chains.apart;
}

pub pointers_read : (r : List ℕ) (d : Disk) (chain : ℕ → List Row) → Reads (PointersSay (read_disk r d chain)) r
pointers_read r d chain a v says = ap (slice_index r) says.place ∙ sym says.value

pages_read : (r : List ℕ) (d : Disk) (chain : ℕ → List Row) → Reads (PagesSay (read_disk r d chain)) r
pages_read r d chain a v says = ap (slice_index r) says.place ∙ sym says.value

-- an image that passes all rules stands for the disk that is read
module _ (c : List ℕ) (d : Disk) (chain : ℕ → List Row) (x : HasPointers c (read_disk (rolled c) d chain)) where
  abbrev f : Disk
  f = read_disk (rolled c) d chain

  has_inodes : HasInodes c f
  has_inodes = x.table.links.logs.inodes

  has_geometry : HasGeometry c
  has_geometry = has_inodes.gate.geometry

  gate_is : IsGate (slice_index c 3) c
  gate_is = has_inodes.gate.gate

  size_is : length c ≡ 512 * d.geometry.pages
  size_is = has_geometry.size ∙ ap (λ (g : Geometry). 512 * g.pages) (sym has_inodes.geometry)

  low_word : (a : ℕ) → a < 512 → slice_index (rolled c) a ≡ slice_index c a
  low_word a low = rolled_low c (slice_index c 3) a gate_is low

  head_read : Reads (HeadSays f) (rolled c)
  head_read a v (at_magic at is) = ap (slice_index (rolled c)) at ∙ low_word 0 (omega arith) ∙ has_geometry.image.magic ∙ sym is
  head_read a v (at_version at is) = ap (slice_index (rolled c)) at ∙ low_word 1 (omega arith) ∙ has_geometry.version ∙ sym is
  head_read a v (at_pages at is) = ap (slice_index (rolled c)) at ∙ low_word 2 (omega arith) ∙ ap (λ (g : Geometry). g.pages)
      (sym has_inodes.geometry) ∙ sym is
  head_read a v (at_inodes at is) = ap (slice_index (rolled c)) at ∙ low_word 3 (omega arith) ∙ ap (λ (g : Geometry). g.inodes)
      (sym has_inodes.geometry) ∙ sym is
  head_read a v (at_gate at is) = ap (slice_index (rolled c)) at ∙ rolled_gate c (omega (arith, has_geometry.image.long)) ∙ sym is

  disk_read : Reads (DiskSays f) (rolled c)
  disk_read a v (of_head says) = head_read a v says
  disk_read a v (of_inodes says) = has_inodes.reads a v says
  disk_read a v (of_logs says) = x.table.links.logs.reads a v says
  disk_read a v (of_chains says) = x.table.reads a v says
  disk_read a v (of_pointers says) = x.reads a v says
  disk_read a v (of_pages says) = pages_read (rolled c) d chain a v says

  module _ (single : IsSingle f) (near : Near f) (p q : ℕ) (ne : p ≢ q) (free_p : IsFree f p) (free_q : IsFree f q) where
    is_valid : IsValid f
    is_valid = record {
      accepted = subst IsAccepted (sym has_inodes.geometry) has_geometry.accepted;
      root = has_inodes.root;
      cuts = has_inodes.cuts;
      logs = x.table.links.logs.logs;
      links = x.table.links.links;
      table = x.table.table;
      rows_apart = x.table.rows_apart;
      pointers = x.pointers;
      leads = x.leads;
      single = single;
      near = near;
      roomy = (p, q, ne, free_p, free_q);
    }

    pub stands : StandsFor c f
    stands = record {
      size = size_is;
      gate = subst (λ (n : ℕ). IsGate n c) (ap (λ (g : Geometry). g.inodes) (sym has_inodes.geometry)) gate_is;
      reads = disk_read;
      valid = is_valid;
    }
