-- An image is read up to the links of its inodes, or it has its first fault.
use Rattle.std.proofs.Common.{inl, inr}
use Rattle.law_image_read.specs.Laws.{AreReadToLinks}
use Rattle.law_image_read.proofs.Head.{head_read}
use Rattle.law_image_read.proofs.Inodes.{read_disk, inodes_read}
use Rattle.law_image_read.proofs.Logs.{logs_read}
use Rattle.law_image_read.proofs.Links.{links_read}

pub read_to_links : AreReadToLinks
read_to_links c = elim (head_read c) [
  | inl fault ↦ inl fault
  | inr gate ↦ elim (inodes_read c gate) [
    | inl fault ↦ inl fault
    | inr inodes ↦ elim (logs_read c inodes) [
      | inl fault ↦ inl fault
      | inr logs ↦ elim (links_read c (read_disk c) logs) [
        | inl fault ↦ inl fault
        | inr links ↦ inr (read_disk c, links)
      ]
    ]
  ]
]
