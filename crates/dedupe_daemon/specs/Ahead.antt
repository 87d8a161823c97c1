-- The pages that the daemon is to look at next, and their copies.
use Rattle.std.specs.Prelude.{
  ℕ,
  ◌==◌,
  ◌&&◌,
  if◌then◌else◌,
  Bool,
  true,
  false,
  List,
  [],
  ◌∷◌,
  ◌++◌,
  map,
  take,
  flat_map,
  filter_map,
  slice_get,
  Option,
  Some,
  None,
}
use Rattle.std.specs.List.{list_any, range_with_len}
use Rattle.std.specs.Ordering.{nat_cmp}
use Rattle.std.specs.FinMap.{FinMap, get}
use Rattle.page_bytes.specs.Bytes.{page_byte}
use Rattle.file_index.specs.declared.page_map.Mapping.{Mapping}
use Rattle.dedupe_queue.specs.declared.Work.{Work}
use Rattle.dn_volume.specs.Batches.{CopiedPage}
use Rattle.dn_volume.specs.declared.background.Sharing.{Sharing}
use Rattle.dn_volume.specs.declared.volume.InodeState.{InodeState}
use Rattle.dn_volume.specs.declared.volume.InodeUse.{InodeUse}
use Rattle.dn_volume.specs.declared.volume.InodeUse.TheVariants as used
use Rattle.dn_volume.specs.declared.volume.Parts.{Parts}
use Rattle.dedupe_daemon.specs.Fronts.{item_at}

-- the page of a mapping that is by the item at this slot
abbrev pub page_by : ℕ → Option Mapping → Option ℕ
page_by slot None = None
page_by slot (Some by) = if by.slot == slot then Some by.block else None

-- the pages that an item maps still, by place
abbrev pub item_pages : Sharing → FinMap nat_cmp Mapping → List ℕ
item_pages item map =
    filter_map (λ idx. page_by item.work.slot (get map idx)) (range_with_len item.first item.count)

-- those of an item of this inode
abbrev pub node_pages : Sharing → Option InodeState → List ℕ
node_pages item None = []
node_pages item (Some node) = item_pages item node.map.map

-- those of the item that is begun
abbrev pub begun_pages : List InodeState → Option Sharing → List ℕ
begun_pages inodes None = []
begun_pages inodes (Some item) = node_pages item (slice_get inodes item.work.ino)

abbrev pub is_live : InodeUse → Bool
is_live used.Free = false
is_live used.Live = true
is_live (used.Dying cut) = false

-- those of an item that waits: none if its inode isn't live, or its log was cleaned since
abbrev pub waiting_pages : List ℕ → Work → Option InodeState → List ℕ
waiting_pages words work None = []
waiting_pages words work (Some node) =
    if is_live node.used && (work.round == node.round)
    then item_pages (item_at words work) node.map.map
    else []

abbrev pub work_pages : List ℕ → List InodeState → Work → List ℕ
work_pages words inodes work = waiting_pages words work (slice_get inodes work.ino)

-- those of the item that is begun and of the first items that wait, by item and then by place
abbrev pub all_pages : ℕ → Parts → List ℕ → List ℕ
all_pages most b words = begun_pages b.inodes.items b.sharing
    ++ flat_map (work_pages words b.inodes.items) (take most b.queue.items)

-- these pages and one more, unless it is one of them
abbrev pub with_page : List ℕ → ℕ → List ℕ
with_page pages page = if list_any (λ p. p == page) pages then pages else pages ++ page ∷ []

-- the pages of the first list, and each further page of the second once
abbrev pub and_once : List ℕ → List ℕ → List ℕ
and_once pages [] = pages
and_once pages (page ∷ rest) = and_once (with_page pages page) rest

-- each of the pages once, none of a volume that is stopped
abbrev pub pages_ahead : ℕ → Parts → List ℕ → List ℕ
pages_ahead most b words = if b.stopped then [] else and_once [] (all_pages most b words)

-- the copy of a page of an image, without its print
abbrev pub copy_of : List ℕ → ℕ → CopiedPage
copy_of words page = record {
  page = page;
  bytes = map (page_byte words page) (range_with_len 0 4096);
  print = None;
}
