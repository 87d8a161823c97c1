-- An image has one first fault at most, and none where it stands for a state.
use Rattle.std.proofs.Common.{◌≡◌, ◌≢◌, ◌⊎◌, inl, inr, ℕ, ◌+◌, ◌*◌, ◌<◌, ◌≤◌, List, ◌∷◌, ◌++◌, length, refl, sym, ◌∙◌, ap}
use Rattle.std.specs.Prelude.{slice_index, All, Contains}
use Rattle.pm_device.specs.Reading.{Reads}
use Rattle.pm_layout.specs.Geometry.{IsAccepted, slots}
use Rattle.dn_model.specs.Rolled.{rolled, IsGate}
use Rattle.dn_model.specs.LogFault.{LogFault}
use Rattle.dn_model.specs.Table.{Row}
use Rattle.dn_model.specs.Disk.{Disk, IsUsed, PointersSay, rows}
use Rattle.dn_model.specs.Counts.{IsFree, IsNear}
use Rattle.dn_model.specs.Valid.{IsLinked}
use Rattle.dn_model.specs.Image.{StandsFor}
use Rattle.dn_model.specs.Faults.{
  IsLeast,
  geometry_of,
  IsImage,
  HasGeometry,
  HasGate,
  IsBadInode,
  HasInodes,
  HasLogs,
  HasLinks,
  HasTable,
  HasPointers,
  IsDouble,
  HasFree,
  TableFault,
  FaultOf,
  not_an_image,
  wrong_version,
  bad_geometry,
  bad_journal,
  bad_inode,
  bad_log,
  bad_link,
  bad_table,
  bad_pointer,
  double_mapped,
  bad_count,
  crowded,
}
use Rattle.dn_model.specs.declared.fault.ImageFault.{ImageFault}
use Rattle.dn_model.specs.declared.fault.ImageFault.TheVariants.{
  NotAnImage,
  WrongVersion,
  BadGeometry,
  BadJournal,
  BadInode,
  BadLog,
  BadLink,
  BadTable,
  BadPointer,
  DoubleMapped,
  BadCount,
  Crowded,
}
use Rattle.law_unique.specs.FirstFaults.{HasOneFault, StandingHasNoFault}
use Rattle.law_unique.proofs.Counted.{free_one}
use Rattle.law_unique.proofs.Stages.{
  least_one,
  no_bad_inode,
  no_bad_log,
  bad_log_one,
  place_one,
  bad_link_one,
  no_bad_link,
  bad_table_one,
  no_bad_table,
  bad_pointer_one,
  no_bad_pointer,
  double_one,
  double-between,
  bad_count_one,
  no_bad_count,
  free-to,
  not_crowded,
  stands_pointers,
  stands_single,
}

-- At one stage either its fault comes, or it is passed and a later one may come.
abbrev Faults : Type 1
Faults = ImageFault → Type 0

abbrev Stage : Faults → Type 0 → Faults → Faults
Stage Here Passed Rest x = Here x ⊎ (Passed × Rest x)

abbrev HasOne : Faults → Type 0
HasOne F = (x y : ImageFault) → F x → F y → x ≡ y

abbrev Excludes : Faults → Type 0 → Type 0
Excludes F Passed = (x : ImageFault) → F x → Passed → ⊥

module _ (Here : Faults) (Passed : Type 0) (Rest : Faults) (apart : Excludes Here Passed) where
  stage_one : HasOne Here → HasOne Rest → HasOne (Stage Here Passed Rest)
  stage_one here rest x y (inl a) (inl b) = here x y a b
  stage_one here rest x y (inl a) (inr b) = absurd (apart x a b.0)
  stage_one here rest x y (inr a) (inl b) = absurd (apart y b a.0)
  stage_one here rest x y (inr a) (inr b) = rest x y a.1 b.1

  stage_none : (All : Type 0) → (All → Passed) → Excludes Rest All → Excludes (Stage Here Passed Rest) All
  stage_none All passed rest x (inl a) all = apart x a (passed all)
  stage_none All passed rest x (inr a) all = rest x a.1 all

module _ (c : List ℕ) where
  abbrev r : List ℕ
  r = rolled c

  -- What is passed, stage by stage.
  abbrev IsVersion : Type 0
  IsVersion = IsImage c × (slice_index c 1 ≡ 1)

  abbrev PassInodes : Type 0
  PassInodes = (d : Disk) × HasInodes c d

  abbrev PassLogs : Type 0
  PassLogs = (d : Disk) × HasLogs c d

  abbrev PassLinks : Type 0
  PassLinks = (d : Disk) × HasLinks c d

  abbrev PassTable : Type 0
  PassTable = (d : Disk) × HasTable c d

  abbrev PassPointers : Type 0
  PassPointers = (d : Disk) × HasPointers c d

  abbrev PassSingle : Type 0
  PassSingle = (d : Disk) × HasPointers c d × ((p : ℕ) → IsDouble d p → ⊥)

  abbrev PassCounts : Type 0
  PassCounts = (d : Disk) × HasPointers c d × ((p : ℕ) → IsDouble d p → ⊥) × All (IsNear d) (rows d)

  abbrev PassAll : Type 0
  PassAll = (d : Disk) × HasPointers c d × ((p : ℕ) → IsDouble d p → ⊥) × All (IsNear d) (rows d) × ((p : ℕ) × (q : ℕ) × (p ≢ q) × IsFree d p × IsFree
      d q)

  -- The faults, stage by stage.
  record AtLog (x : ImageFault) : Type 0 where
    pub d : Disk
    pub ino : ℕ
    pub place : ℕ
    pub inodes : HasInodes c d
    pub used : IsUsed (d.inode ino).use_of
    pub fault : LogFault d.geometry r ino place
    pub least : IsLeast d.geometry.inodes (λ i. IsUsed (d.inode i).use_of × ((n : ℕ) × LogFault d.geometry r i n)) ino
    pub is : x ≡ BadLog ino place

  record AtLink (x : ImageFault) : Type 0 where
    pub d : Disk
    pub ino : ℕ
    pub logs : HasLogs c d
    pub least : IsLeast d.geometry.inodes (λ i. (1 ≤ i) × (IsLinked d i (d.inode i).use_of → ⊥)) ino
    pub is : x ≡ BadLink ino

  record AtTable (x : ImageFault) : Type 0 where
    pub d : Disk
    pub slot : ℕ
    pub links : HasLinks c d
    pub fault : TableFault d.geometry r slot
    pub is : x ≡ BadTable slot

  record AtPointer (x : ImageFault) : Type 0 where
    pub d : Disk
    pub page : ℕ
    pub table : HasTable c d
    pub reads : Reads (PointersSay d) r
    pub least : IsLeast d.geometry.pages
        (λ p. (slots d.geometry < d.pointer p) ⊎ ((row : Row) × Contains (rows d) row × (row.page ≡ p) × (d.pointer p ≢ row.slot + 1))) page
    pub is : x ≡ BadPointer page

  record AtDouble (x : ImageFault) : Type 0 where
    pub d : Disk
    pub page : ℕ
    pub pointers : HasPointers c d
    pub least : IsLeast d.geometry.pages (IsDouble d) page
    pub is : x ≡ DoubleMapped page

  record AtCount (x : ImageFault) : Type 0 where
    pub d : Disk
    pub before : List Row
    pub after : List Row
    pub row : Row
    pub pointers : HasPointers c d
    pub rows_are : rows d ≡ before ++ row ∷ after
    pub near : All (IsNear d) before
    pub far : IsNear d row → ⊥
    pub is : x ≡ BadCount row.slot

  record AtRoom (x : ImageFault) : Type 0 where
    pub d : Disk
    pub free : ℕ
    pub pointers : HasPointers c d
    pub has : HasFree d free
    pub few : free < 2
    pub is : x ≡ Crowded free

  abbrev AtImage : Faults
  AtImage x = (IsImage c → ⊥) × (x ≡ NotAnImage)

  abbrev AtVersion : Faults
  AtVersion x = (slice_index c 1 ≢ 1) × (x ≡ WrongVersion (slice_index c 1))

  abbrev AtGeometry : Faults
  AtGeometry x = (IsAccepted (geometry_of c) → length c ≡ 512 * slice_index c 2 → ⊥) × (x ≡ BadGeometry)

  abbrev AtJournal : Faults
  AtJournal x = (IsGate (slice_index c 3) c → ⊥) × (x ≡ BadJournal)

  abbrev AtInode : Faults
  AtInode x = (ino : ℕ) × IsLeast (slice_index c 3) (IsBadInode r) ino × (x ≡ BadInode ino)

  abbrev From11 : Faults
  From11 = Stage AtCount PassCounts AtRoom

  abbrev From10 : Faults
  From10 = Stage AtDouble PassSingle From11

  abbrev From9 : Faults
  From9 = Stage AtPointer PassPointers From10

  abbrev From8 : Faults
  From8 = Stage AtTable PassTable From9

  abbrev From7 : Faults
  From7 = Stage AtLink PassLinks From8

  abbrev From6 : Faults
  From6 = Stage AtLog PassLogs From7

  abbrev From5 : Faults
  From5 = Stage AtInode PassInodes From6

  abbrev From4 : Faults
  From4 = Stage AtJournal (HasGate c) From5

  abbrev From3 : Faults
  From3 = Stage AtGeometry (HasGeometry c) From4

  abbrev From2 : Faults
  From2 = Stage AtVersion IsVersion From3

  abbrev From1 : Faults
  From1 = Stage AtImage (IsImage c) From2

  -- A later stage is reached by all before it.
  to2 : (x : ImageFault) → IsImage c → From2 x → From1 x
  to2 x p f = inr (p, f)

  to3 : (x : ImageFault) → IsVersion → From3 x → From1 x
  to3 x p f = to2 x p.0 (inr (p, f))

  to4 : (x : ImageFault) → HasGeometry c → From4 x → From1 x
  to4 x p f = to3 x (p.image, p.version) (inr (p, f))

  to5 : (x : ImageFault) → HasGate c → From5 x → From1 x
  to5 x p f = to4 x p.geometry (inr (p, f))

  to6 : (x : ImageFault) (d : Disk) → HasInodes c d → From6 x → From1 x
  to6 x d p f = to5 x p.gate (inr ((d, p), f))

  to7 : (x : ImageFault) (d : Disk) → HasLogs c d → From7 x → From1 x
  to7 x d p f = to6 x d p.inodes (inr ((d, p), f))

  to8 : (x : ImageFault) (d : Disk) → HasLinks c d → From8 x → From1 x
  to8 x d p f = to7 x d p.logs (inr ((d, p), f))

  to9 : (x : ImageFault) (d : Disk) → HasTable c d → From9 x → From1 x
  to9 x d p f = to8 x d p.links (inr ((d, p), f))

  to10 : (x : ImageFault) (d : Disk) → HasPointers c d → From10 x → From1 x
  to10 x d p f = to9 x d p.table (inr ((d, p), f))

  to11 : (x : ImageFault) (d : Disk) → HasPointers c d → ((p : ℕ) → IsDouble d p → ⊥) → From11 x → From1 x
  to11 x d p single f = to10 x d p (inr ((d, p, single), f))

  staged : (x : ImageFault) → FaultOf c x → From1 x
  staged x (not_an_image bad) = inl (bad, refl)
  staged x (wrong_version image bad) = to2 _ image (inl (bad, refl))
  staged x (bad_geometry image version bad) = to3 _ (image, version) (inl (bad, refl))
  staged x (bad_journal geometry bad) = to4 _ geometry (inl (bad, refl))
  staged x (bad_inode ino gate least) = to5 _ gate (inl (ino, least, refl))
  staged x (bad_log d ino place inodes used fault least) =
      to6 _ d inodes (inl (record { d = d; ino = ino; place = place; inodes = inodes; used = used; fault = fault; least = least; is = refl }))
  staged x (bad_link d ino logs least) = to7 _ d logs (inl (record { d = d; ino = ino; logs = logs; least = least; is = refl }))
  staged x (bad_table d slot links fault) = to8 _ d links (inl (record { d = d; slot = slot; links = links; fault = fault; is = refl }))
  staged x (bad_pointer d page table reads least) = to9 _ d table
      (inl (record { d = d; page = page; table = table; reads = reads; least = least; is = refl }))
  staged x (double_mapped d page pointers least) = to10 _ d pointers
      (inl (record { d = d; page = page; pointers = pointers; least = least; is = refl }))
  staged x (bad_count d before after row pointers single rows_are near far) =
      to11 _ d pointers single (inl (record {
        d = d;
        before = before;
        after = after;
        row = row;
        pointers = pointers;
        rows_are = rows_are;
        near = near;
        far = far;
        is = refl;
      }))
  staged x (crowded d free pointers single near has few) =
      to11 _ d pointers single
      (inr ((d, pointers, single, near), record { d = d; free = free; pointers = pointers; has = has; few = few; is = refl }))

  -- A fault and what is passed exclude one another.
  apart_image : Excludes AtImage (IsImage c)
  apart_image x a p = a.0 p

  apart_version : Excludes AtVersion IsVersion
  apart_version x a p = a.0 p.1

  apart_geometry : Excludes AtGeometry (HasGeometry c)
  apart_geometry x a p = a.0 p.accepted p.size

  apart_journal : Excludes AtJournal (HasGate c)
  apart_journal x a p = a.0 p.gate

  apart_inode : Excludes AtInode PassInodes
  apart_inode x a p = no_bad_inode c p.0 p.1 a.0 a.1.below a.1.has

  apart_log : Excludes AtLog PassLogs
  apart_log x a p = no_bad_log c a.d p.0 a.ino a.place a.inodes p.1 a.least.below a.used a.fault

  apart_link : Excludes AtLink PassLinks
  apart_link x a p = no_bad_link c a.d p.0 a.ino a.logs p.1 a.least.below a.least.has

  apart_table : Excludes AtTable PassTable
  apart_table x a p = no_bad_table c a.d p.0 a.slot a.links p.1 a.fault

  apart_pointer : Excludes AtPointer PassPointers
  apart_pointer x a p = no_bad_pointer c a.d p.0 a.page a.table a.reads p.1 a.least.below a.least.has

  apart_double : Excludes AtDouble PassSingle
  apart_double x a p = p.2 a.page (double-between c a.d p.0 a.pointers p.1 a.page a.least.has)

  apart_count : Excludes AtCount PassCounts
  apart_count x a p = no_bad_count c a.d p.0 a.before a.row a.after a.pointers p.1 a.rows_are a.far p.3

  apart_room : Excludes AtRoom PassAll
  apart_room x a p = let room = p.4 in not_crowded c p.0 a.free room.0 room.1 (free-to c a.d p.0 a.pointers p.1 a.free a.has) a.few room.2 room.3
      room.4

  -- One fault of a stage.
  one_inode : HasOne AtInode
  one_inode x y a b =
      let same = least_one (slice_index c 3) (slice_index c 3) (IsBadInode r) (IsBadInode r) a.0 b.0 refl a.1 b.1 (λ i lt bad. bad) (λ i lt bad. bad)
      in
      a.2 ∙ ap BadInode same ∙ sym b.2

  one_log : HasOne AtLog
  one_log x y a b =
      let ino : a.ino ≡ b.ino = bad_log_one c a.d b.d a.ino b.ino a.inodes b.inodes a.least b.least in
      let place : a.place ≡ b.place = place_one c a.d b.d a.ino b.ino a.place b.place a.inodes b.inodes ino a.fault b.fault in
      a.is ∙ (λ i. BadLog (ino i) (place i)) ∙ sym b.is

  one_link : HasOne AtLink
  one_link x y a b = a.is ∙ ap BadLink (bad_link_one c a.d b.d a.ino b.ino a.logs b.logs a.least b.least) ∙ sym b.is

  one_table : HasOne AtTable
  one_table x y a b = a.is ∙ ap BadTable (bad_table_one c a.d b.d a.slot b.slot a.links b.links a.fault b.fault) ∙ sym b.is

  one_pointer : HasOne AtPointer
  one_pointer x y a b = a.is ∙ ap BadPointer (bad_pointer_one c a.d b.d a.page b.page a.table b.table a.reads b.reads a.least b.least) ∙ sym b.is

  one_double : HasOne AtDouble
  one_double x y a b = a.is ∙ ap DoubleMapped (double_one c a.d b.d a.page b.page a.pointers b.pointers a.least b.least) ∙ sym b.is

  one_count : HasOne AtCount
  one_count x y a b =
      let row : a.row ≡ b.row = bad_count_one c a.d b.d a.before b.before a.row b.row a.after b.after a.pointers b.pointers a.rows_are b.rows_are
      a.near a.far b.near b.far in
      a.is ∙ ap (λ (z : Row). BadCount z.slot) row ∙ sym b.is

  one_room : HasOne AtRoom
  one_room x y a b = a.is ∙ ap Crowded (free_one b.d a.free b.free (free-to c a.d b.d a.pointers b.pointers a.free a.has) b.has) ∙ sym b.is

  one_from8 : HasOne From8
  one_from8 =
      stage_one AtTable PassTable From9 apart_table one_table
      (stage_one AtPointer PassPointers From10 apart_pointer one_pointer
      (stage_one AtDouble PassSingle From11 apart_double one_double
      (stage_one AtCount PassCounts AtRoom apart_count one_count one_room)))

  one_from1 : HasOne From1
  one_from1 =
      stage_one AtImage (IsImage c) From2 apart_image (λ x y a b. a.1 ∙ sym b.1)
      (stage_one AtVersion IsVersion From3 apart_version (λ x y a b. a.1 ∙ sym b.1)
      (stage_one AtGeometry (HasGeometry c) From4 apart_geometry (λ x y a b. a.1 ∙ sym b.1)
      (stage_one AtJournal (HasGate c) From5 apart_journal (λ x y a b. a.1 ∙ sym b.1)
      (stage_one AtInode PassInodes From6 apart_inode one_inode
      (stage_one AtLog PassLogs From7 apart_log one_log
      (stage_one AtLink PassLinks From8 apart_link one_link one_from8))))))

  -- No fault where all is passed.
  none_from8 : Excludes From8 PassAll
  none_from8 =
      stage_none AtTable PassTable From9 apart_table PassAll (λ p. (p.0, p.1.table))
      (stage_none AtPointer PassPointers From10 apart_pointer PassAll (λ p. (p.0, p.1))
      (stage_none AtDouble PassSingle From11 apart_double PassAll (λ p. (p.0, p.1, p.2))
      (stage_none AtCount PassCounts AtRoom apart_count PassAll (λ p. (p.0, p.1, p.2, p.3)) apart_room)))

  none_from1 : Excludes From1 PassAll
  none_from1 =
      stage_none AtImage (IsImage c) From2 apart_image PassAll (λ p. p.1.table.links.logs.inodes.gate.geometry.image)
      (stage_none AtVersion IsVersion From3 apart_version PassAll
      (λ p. (p.1.table.links.logs.inodes.gate.geometry.image, p.1.table.links.logs.inodes.gate.geometry.version))
      (stage_none AtGeometry (HasGeometry c) From4 apart_geometry PassAll (λ p. p.1.table.links.logs.inodes.gate.geometry)
      (stage_none AtJournal (HasGate c) From5 apart_journal PassAll (λ p. p.1.table.links.logs.inodes.gate)
      (stage_none AtInode PassInodes From6 apart_inode PassAll (λ p. (p.0, p.1.table.links.logs.inodes))
      (stage_none AtLog PassLogs From7 apart_log PassAll (λ p. (p.0, p.1.table.links.logs))
      (stage_none AtLink PassLinks From8 apart_link PassAll (λ p. (p.0, p.1.table.links)) none_from8))))))

  passes_all : (d : Disk) → StandsFor c d → PassAll
  passes_all d s = (d, stands_pointers c d s, stands_single c d s, s.valid.near, s.valid.roomy)

pub fault_one : HasOneFault
fault_one c x y a b = one_from1 c x y (staged c x a) (staged c y b)

pub fault_none : StandingHasNoFault
fault_none c x a none = none_from1 c x (staged c x a) (passes_all c none.disk none.stands_for)
