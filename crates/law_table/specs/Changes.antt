-- The single changes of the table of fingerprints, each a disk made from a disk.
use Rattle.std.specs.Prelude.{ℕ, if◌then◌else◌, ◌==◌, List, [], ◌∷◌, map}
use Rattle.dn_model.specs.Table.{Row, first_slot}
use Rattle.dn_model.specs.Disk.{Disk}

-- the disk with other chains and pointers
abbrev pub with_table : Disk → (ℕ → List Row) → (ℕ → ℕ) → Disk
with_table d chain pointer = record {
  geometry = d.geometry;
  inode = d.inode;
  chain = chain;
  pointer = pointer;
  word = d.word;
}

-- a row, with these counts if it is the one at this slot
abbrev pub recount : ℕ → ℕ → ℕ → Row → Row
recount slot rfc uc row = record {
  slot = row.slot;
  print = row.print;
  page = row.page;
  rfc = if row.slot == slot then rfc else row.rfc;
  uc = if row.slot == slot then uc else row.uc;
}

-- the row at this slot has these counts
abbrev pub recounted : Disk → ℕ → ℕ → ℕ → Disk
recounted d slot rfc uc = with_table d (λ p. map (recount slot rfc uc) (d.chain p)) d.pointer

-- the pointer of this page is this value
abbrev pub repointed : Disk → ℕ → ℕ → Disk
repointed d page value = with_table d d.chain (λ p. if p == page then value else d.pointer p)

-- the row stands first in the chain of this prefix
abbrev pub opened : Disk → ℕ → Row → Disk
opened d prefix row = with_table d (λ p. if p == prefix then row ∷ d.chain p else d.chain p)
    d.pointer

-- the row stands behind that of the direct slot, or first where the direct slot has none
abbrev pub link : ℕ → Row → List Row → List Row
link prefix row [] = row ∷ []
link prefix row (first ∷ rows) = if first.slot == prefix then first ∷ row ∷ rows else row ∷ first
    ∷ rows

-- so in the chain of this prefix
abbrev pub linked : Disk → ℕ → Row → Disk
linked d prefix row = with_table d (λ p. if p == prefix then link prefix row (d.chain p) else
    d.chain p) d.pointer

-- the rows at other slots
abbrev pub without : ℕ → List Row → List Row
without slot [] = []
without slot (row ∷ rows) = if row.slot == slot then without slot rows else row ∷ without slot rows

-- the row of this slot is gone
abbrev pub removed : Disk → ℕ → Disk
removed d slot = with_table d (λ p. without slot (d.chain p)) d.pointer

-- the slot whose next word leads to this one, where the chain comes from slot `before`
abbrev pub slot_before : ℕ → List Row → ℕ → ℕ
slot_before before [] slot = before
slot_before before (row ∷ rows) slot = if row.slot == slot then before else slot_before row.slot
    rows slot

-- the slot that follows this one in the chain, 0 for none
abbrev pub slot_after : List Row → ℕ → ℕ
slot_after [] slot = 0
slot_after (row ∷ rows) slot = if row.slot == slot then first_slot rows else slot_after rows slot
