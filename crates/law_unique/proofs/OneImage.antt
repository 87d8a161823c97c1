-- An image stands for one disk, and has the files of one map.
use Rattle.std.proofs.Common.{◌≡◌, inl, inr, ⊎_elim, ℕ, ◌+◌, ◌*◌, List, refl, sym, ◌∙◌, subst}
use Rattle.std.specs.Prelude.{IsSome}
use Rattle.dn_model.specs.Rolled.{rolled}
use Rattle.dn_model.specs.Table.{Row, row_of}
use Rattle.dn_model.specs.Disk.{Disk, IsMapped, rows, of_head, of_inodes, of_logs, of_chains, of_pointers, of_pages}
use Rattle.law_unique.specs.SameDisk.{IsRead, HasSameLogs}
use Rattle.law_unique.specs.Images.{HasOneDisk, HasOneMap}
use Rattle.law_unique.proofs.SameParts.{geometry_one, uses_one, same_logs, chains_one, pointers_one, mapped-same, rows-same}
use Rattle.law_unique.proofs.SameMeaning.{means_the_same}

pub read-same : (d e : Disk) → HasSameLogs d e → rows d ≡ rows e → (page : ℕ) → IsRead d page → IsRead e page
read-same d e same same_rows page read = ⊎_elim
    (λ (mapped : IsMapped d page). inl (mapped-same d e same page mapped))
    (λ (row : IsSome (row_of (rows d) page)). inr (subst (λ (rs : List Row). IsSome (row_of rs page)) same_rows row))
    read

pub disk_one : HasOneDisk
disk_one c d e is_d is_e =
    let r = rolled c in
    let geometry = geometry_one r d e (λ a v says. is_d.reads a v (of_head says)) (λ a v says. is_e.reads a v (of_head says)) in
    let uses = uses_one r d e geometry (λ a v says. is_d.reads a v (of_inodes says)) (λ a v says. is_e.reads a v (of_inodes says)) in
    let inodes : HasSameLogs d e = same_logs r d e geometry uses is_d.valid.logs is_e.valid.logs (λ a v says. is_d.reads a v (of_logs says))
    (λ a v says. is_e.reads a v (of_logs says)) in
    let chains = chains_one r d e geometry is_d.valid.table is_e.valid.table (λ a v says. is_d.reads a v (of_chains says))
    (λ a v says. is_e.reads a v (of_chains says)) in
    record {
      inodes = inodes;
      chains = chains;
      pointers = pointers_one r d e geometry (λ a v says. is_d.reads a v (of_pointers says)) (λ a v says. is_e.reads a v (of_pointers says));
      words = λ page k lt read.
          let there = read-same d e inodes (rows-same d e geometry chains) page read in
          sym (is_d.reads (512 * page + k) (d.word page k)
          (of_pages (record { page = page; k = k; in_page = lt; read = read; place = refl; value = refl })))
          ∙ is_e.reads (512 * page + k) (e.word page k)
          (of_pages (record { page = page; k = k; in_page = lt; read = there; place = refl; value = refl }));
    }

pub map_one : HasOneMap
map_one c f g x y name =
    x.same name ∙ (means_the_same x.disk y.disk x.stands_for.valid (disk_one c x.disk y.disk x.stands_for y.stands_for)).files name ∙ sym
    (y.same name)
