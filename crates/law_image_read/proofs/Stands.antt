-- Words that pass all rules stand for the state.
use Rattle.std.proofs.Common.{◌≡◌, ◌≢◌, ℕ, ◌*◌, ◌<◌, ◌≤◌, List, length, sym, ◌∙◌, ap, subst, arith, get_or-set_same, get_or-set_other}
use Rattle.std.specs.Prelude.{slice_index}
use Rattle.pm_device.specs.Reading.{Reads}
use Rattle.pm_layout.specs.declared.Geometry.{Geometry}
use Rattle.pm_layout.specs.Geometry.{IsAccepted, gate_word}
use Rattle.dn_model.specs.Rolled.{rolled, put_back, IsGate}
use Rattle.dn_model.proofs.RollBack.{put_back_other, length-put_back}
use Rattle.dn_model.specs.Disk.{
  Disk,
  HeadSays,
  at_magic,
  at_version,
  at_pages,
  at_inodes,
  at_gate,
  DiskSays,
  of_head,
  of_inodes,
  of_logs,
  of_chains,
  of_pointers,
  of_pages,
  PagesSay,
}
use Rattle.dn_model.specs.Counts.{IsFree, Near}
use Rattle.dn_model.specs.Valid.{IsSingle, IsValid}
use Rattle.dn_model.specs.Image.{StandsFor}
use Rattle.dn_model.specs.Faults.{HasGeometry, HasInodes, HasPointers}
use Rattle.law_image_read.specs.Laws.{PassingStands}

module _ (c : List ℕ) (n : ℕ) (gate : IsGate n c) where
  rolled_low : (a : ℕ) → a < 512 → slice_index (rolled c) a ≡ slice_index c a
  unfolding rolled
  rolled_low a low =
      get_or-set_other (put_back c (slice_index c gate_word) c) gate_word a 0 0 (λ e. omega (arith, e, low))
      ∙ put_back_other c c (slice_index c gate_word) a (λ i lt e. omega (arith, e, low, (gate.addresses i lt).is))

  rolled_gate : 32768 ≤ length c → slice_index (rolled c) gate_word ≡ 0
  unfolding rolled
  rolled_gate long = get_or-set_same (put_back c (slice_index c gate_word) c) gate_word 0 0
      (omega (arith, long, length-put_back c c (slice_index c gate_word)))

module _ (c : List ℕ) (d : Disk) (passed : HasPointers c d) (pages : Reads (PagesSay d) (rolled c)) (single : IsSingle d) (near : Near d)
    (p q : ℕ) (other : p ≢ q) (free_p : IsFree d p) (free_q : IsFree d q) where
  inodes : HasInodes c d
  inodes = passed.table.links.logs.inodes

  geometry : HasGeometry c
  geometry = inodes.gate.geometry

  pages_are : d.geometry.pages ≡ slice_index c 2
  pages_are = ap (λ (g : Geometry). g.pages) inodes.geometry

  inodes_are : d.geometry.inodes ≡ slice_index c 3
  inodes_are = ap (λ (g : Geometry). g.inodes) inodes.geometry

  -- a word of the head
  head_word : (a b v : ℕ) → a ≡ b → b < 512 → slice_index c b ≡ v → slice_index (rolled c) a ≡ v
  head_word a b v place low is = ap (slice_index (rolled c)) place ∙ rolled_low c (slice_index c 3) inodes.gate.gate b low ∙ is

  head_says : Reads (HeadSays d) (rolled c)
  head_says a v (at_magic place value) = head_word a 0 v place (omega arith) (geometry.image.magic ∙ sym value)
  head_says a v (at_version place value) = head_word a 1 v place (omega arith) (geometry.version ∙ sym value)
  head_says a v (at_pages place value) = head_word a 2 v place (omega arith) (sym pages_are ∙ sym value)
  head_says a v (at_inodes place value) = head_word a 3 v place (omega arith) (sym inodes_are ∙ sym value)
  head_says a v (at_gate place value) = ap (slice_index (rolled c)) place ∙ rolled_gate c (slice_index c 3) inodes.gate.gate geometry.image.long ∙ sym
      value

  disk_says : Reads (DiskSays d) (rolled c)
  disk_says a v (of_head says) = head_says a v says
  disk_says a v (of_inodes says) = inodes.reads a v says
  disk_says a v (of_logs says) = passed.table.links.logs.reads a v says
  disk_says a v (of_chains says) = passed.table.reads a v says
  disk_says a v (of_pointers says) = passed.reads a v says
  disk_says a v (of_pages says) = pages a v says

  valid : IsValid d
  valid = record {
    accepted = subst IsAccepted (sym inodes.geometry) geometry.accepted;
    root = inodes.root;
    cuts = inodes.cuts;
    logs = passed.table.links.logs.logs;
    links = passed.table.links.links;
    table = passed.table.table;
    rows_apart = passed.table.rows_apart;
    pointers = passed.pointers;
    leads = passed.leads;
    single = single;
    near = near;
    roomy = (p, q, other, free_p, free_q);
  }

  stands_for : StandsFor c d
  stands_for = record {
    size = geometry.size ∙ ap (λ (n : ℕ). 512 * n) (sym pages_are);
    gate = subst (λ (n : ℕ). IsGate n c) (sym inodes_are) inodes.gate.gate;
    reads = disk_says;
    valid = valid;
  }

pub passing : PassingStands
passing c d passed pages single near p q other free_p free_q = stands_for c d passed pages single near p q other free_p free_q
