-- The rules up to the links speak of the geometry and the inodes alone.
use Rattle.std.proofs.Common.{◌≡◌, ℕ, ◌<◌, List, None, sym, ◌∙◌, ap, subst}
use Rattle.pm_layout.specs.declared.Geometry.{Geometry}
use Rattle.dn_model.specs.Disk.{Disk, Inode, Use, Free, Live, Dying, IsUsed, InodesSay, at_state, at_cut, LogsSay, state_number}
use Rattle.dn_model.specs.Log.{LogSays}
use Rattle.dn_model.specs.Files.{named, named_after}
use Rattle.dn_model.specs.Valid.{IsCut, IsLog, IsLinked}
use Rattle.dn_model.specs.Faults.{HasInodes, HasLogs, HasLinks}
use Rattle.law_image_read.specs.Laws.{LinksStay}

module _ (c : List ℕ) (d e : Disk) (same : e.geometry ≡ d.geometry) (alike : (ino : ℕ) → e.inode ino ≡ d.inode ino) where
  in_table : (ino : ℕ) → ino < e.geometry.inodes → ino < d.geometry.inodes
  in_table ino lt = subst (λ (g : Geometry). ino < g.inodes) same lt

  inodes_say : (a v : ℕ) → InodesSay e a v → InodesSay d a v
  inodes_say a v (at_state ino lt place value) = at_state ino (in_table ino lt) place (value ∙ ap (λ (i : Inode). state_number i.use_of) (alike ino))
  inodes_say a v (at_cut ino k lt dying place value) = at_cut ino k (in_table ino lt) (sym (ap (λ (i : Inode). i.use_of) (alike ino)) ∙ dying) place
      value

  logs_say : (a v : ℕ) → LogsSay e a v → LogsSay d a v
  logs_say a v says = record {
    ino = says.ino;
    in_table = in_table says.ino says.in_table;
    used = subst (λ (i : Inode). IsUsed i.use_of) (alike says.ino) says.used;
    says = subst (λ (i : Inode). LogSays says.ino i.log a v) (alike says.ino) says.says;
  }

  inodes_stay : HasInodes c d → HasInodes c e
  inodes_stay x = record {
    gate = x.gate;
    geometry = same ∙ x.geometry;
    reads = λ a v says. x.reads a v (inodes_say a v says);
    root = ap (λ (i : Inode). i.use_of) (alike 0) ∙ x.root;
    cuts = λ ino lt. subst (λ (i : Inode). IsCut i.use_of) (sym (alike ino)) (x.cuts ino (in_table ino lt));
  }

  log_stays : (ino : ℕ) → IsLog d.geometry ino (d.inode ino).log → IsLog e.geometry ino (e.inode ino).log
  log_stays ino is = subst (λ (g : Geometry). IsLog g ino (e.inode ino).log) (sym same) (subst (λ (i : Inode). IsLog d.geometry ino i.log)
      (sym (alike ino)) is)

  logs_stay : HasLogs c d → HasLogs c e
  logs_stay x = record {
    inodes = inodes_stay x.inodes;
    reads = λ a v says. x.reads a v (logs_say a v says);
    logs = λ ino lt used. log_stays ino (x.logs ino (in_table ino lt) (subst (λ (i : Inode). IsUsed i.use_of) (alike ino) used));
  }

  names_stay : (name : List ℕ) → named e name ≡ named d name
  unfolding named
  names_stay name = ap (λ (i : Inode). named_after name None i.log.items) (alike 0)

  linked_stays : (ino : ℕ) (u : Use) → IsLinked d ino u → IsLinked e ino u
  linked_stays ino Live one = record {
    name = one.name;
    leads = names_stay one.name ∙ one.leads;
    alone = λ other leads. one.alone other (sym (names_stay other) ∙ leads);
  }
  linked_stays ino Free none = λ name leads. none name (sym (names_stay name) ∙ leads)
  linked_stays ino (Dying cut) none = λ name leads. none name (sym (names_stay name) ∙ leads)

  links_stay : HasLinks c d → HasLinks c e
  links_stay x = record {
    logs = logs_stay x.logs;
    links = λ ino some lt. subst (λ (i : Inode). IsLinked e ino i.use_of) (sym (alike ino))
        (linked_stays ino (d.inode ino).use_of (x.links ino some (in_table ino lt)));
  }

pub stay : LinksStay
stay c d e same alike x = links_stay c d e same alike x
