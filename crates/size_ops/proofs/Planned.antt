-- Why a cut is refused by the files, and what it takes where it is granted.
use Rattle.std.proofs.Common.{◌≡◌, ℕ, ◌+◌, ◌%◌, ◌/◌, ◌<◌, ◌≤◌, Bool, true, false, List, [], refl, sym, ◌∙◌, ap, subst, arith}
use Rattle.std.specs.Prelude.{Result, Ok, Err, IfErr, slice_get, if◌then◌else◌, ◌==◌, ◌&&◌, not, nat_lt, is_some, Option, Some, None}
use Rattle.std.specs.Option.{option_map}
use Rattle.std.specs.Result.{IsErrAnd}
use Rattle.std.specs.FinMap.{get}
use Rattle.std.proofs.lemmas.Bool.Decides.{nat_tests}
use Rattle.std.proofs.lemmas.List.Elements.{All-head}
use Rattle.pm_device.specs.State.{State}
use Rattle.log_entry.specs.Name.{IsLegal}
use Rattle.file_content.specs.Content.{kept}
use Rattle.file_index.specs.declared.page_map.Mapping.{Mapping}
use Rattle.dn_model.specs.Maps.{Mapping as DiskMapping, size_of}
use Rattle.dn_model.specs.Log.{Log, IsPaged, count, tail_at}
use Rattle.dn_model.specs.Disk.{Disk, IsUsed, maps}
use Rattle.dn_model.specs.Files.{named}
use Rattle.dn_model.specs.Apply.{bad_name, missed, too_big}
use Rattle.dn_model.specs.History.{refilled, inode_of, room, extra}
use Rattle.dn_model.specs.declared.op.Op.{Op}
use Rattle.dn_model.specs.declared.op.Op.TheVariants.{Cut}
use Rattle.dn_model.specs.declared.op.Reply.TheVariants.{Refused}
use Rattle.dn_model.specs.declared.op.Refusal.{Refusal}
use Rattle.dn_model.specs.declared.op.Refusal.TheVariants as why
use Rattle.pm_layout.specs.declared.Geometry.{Geometry}
use Rattle.dn_volume.specs.declared.volume.InodeState.{InodeState}
use Rattle.dn_volume.specs.declared.volume.Parts.{Parts}
use Rattle.dn_volume.specs.Agrees.{IsVolume}
use Rattle.dn_volume.specs.Begins.{IsAnswerOf, of_files}
use Rattle.data_begins.specs.Asked.{IsLiveFile}
use Rattle.data_begins.specs.Lookup.{IsFound, IsLookupRefusal}
use Rattle.data_begins.proofs.LiveFiles.{named_file, log_paged}
use Rattle.size_ops.specs.Planning.{IsCutOf, IsStateOf, IsPlanOf, lost_from}
use Rattle.size_ops.proofs.Sized.{leads, no_file, finds_file, legal_one}

module _ (d : Disk) (b : Parts) (s : State) (v : IsVolume d b s) (name : List ℕ) (to : ℕ) where
  -- no file is found
  pub cut_refused : (refusal : Refusal) → IsLookupRefusal b.names.map name refusal → IsAnswerOf d b (Cut name to) (Refused refusal)
  cut_refused why.BadName bad = of_files (Refused why.BadName) (bad_name (λ all. bad (All-head IsLegal name [] all)) refl)
      (λ granted. bad (All-head IsLegal name [] granted.legal))
  cut_refused why.NotFound is = of_files (Refused why.NotFound) (missed (legal_one d b s v name is.0) (no_file d b s v name is.1) refl)
      (λ granted. no_file d b s v name is.1 granted.finds)
  cut_refused why.Exists is = absurd is
  cut_refused why.TooLong is = absurd is
  cut_refused why.TooBig is = absurd is
  cut_refused why.NoInode is = absurd is
  cut_refused (why.NoSpace needed free) is = absurd is

  pub cut_too_big : (ino : ℕ) → IsFound b.names.map name ino → 16777216 < to → IsAnswerOf d b (Cut name to) (Refused why.TooBig)
  cut_too_big ino is big = of_files (Refused why.TooBig)
      (too_big (legal_one d b s v name is.legal) (finds_file d b s v name ino is.leads) tt (λ le. omega (arith, big, le)) refl)
      (λ granted. let fits : to ≤ 16777216 = granted.fits in omega (arith, big, fits))

  pub cut_granted : (ino : ℕ) → IsFound b.names.map name ino → to ≤ 16777216 → IsCutOf d (Cut name to) ino
  cut_granted ino is small = record {
    name = name;
    to = to;
    op_is = refl;
    legal = is.legal;
    leads = leads d b s v name ino is.leads;
    fits = small;
  }

-- the page that is filled anew, as it is kept in memory and on the disk
same_some : (o : Option DiskMapping) → is_some (option_map kept o) ≡ is_some o
same_some None = refl
same_some (Some m) = refl

pub refilled_is : (d : Disk) (ino : ℕ) (n : InodeState) (name : List ℕ) (to : ℕ) → IsStateOf d ino n → named d name ≡ Some ino
    → refilled d name to ≡ (if not (to % 4096 == 0) && nat_lt to n.size && is_some (get n.map.map (to / 4096)) then 1 else 0)
refilled_is d ino n name to state leads =
    ap (λ (r : Option ℕ). if not (to % 4096 == 0) && nat_lt to (size_of (d.inode (inode_of r)).log) && is_some (maps d (inode_of r)
    (to / 4096)) then 1
    else 0) leads
    ∙ ap (λ (k : ℕ). if not (to % 4096 == 0) && nat_lt to k && is_some (maps d ino (to / 4096)) then 1 else 0) (state.is.size_is state.used)
    ∙ ap (λ (t : Bool). if not (to % 4096 == 0) && nat_lt to n.size && t then 1 else 0)
    (sym (ap (λ (o : Option Mapping). is_some o) (state.is.places (to / 4096)) ∙ same_some (maps d ino (to / 4096))))

-- whether a log grows
pub grows_one : (log : Log) (left slots : ℕ) → left ≡ room log → left < slots → 1 ≡ extra slots log
grows_one log left slots is lt =
    let test : nat_lt (room log) slots ≡ true = below (room log) slots (omega (arith, is, lt)) in
    ap (λ (t : Bool). if t then 1 else 0) (sym test)
  where
    below : (a b : ℕ) → a < b → nat_lt a b ≡ true
    below a b lt = grind (arith, nat_tests)

pub grows_none : (log : Log) (left slots : ℕ) → left ≡ room log → slots ≤ left → 0 ≡ extra slots log
grows_none log left slots is le =
    let test : nat_lt (room log) slots ≡ false = past (room log) slots (omega (arith, is, le)) in
    ap (λ (t : Bool). if t then 1 else 0) (sym test)
  where
    past : (a b : ℕ) → b ≤ a → nat_lt a b ≡ false
    past a b le = grind (arith, nat_tests)

-- the file that is cut, in memory and on the disk
module _ (d : Disk) (b : Parts) (s : State) (v : IsVolume d b s) (op : Op) (ino : ℕ) (cut : IsCutOf d op ino) where
  pub file : IsLiveFile d ino
  file = named_file d b s v cut.name ino cut.leads

  pub plan_is : (size pages log_pages from : ℕ) (node : InodeState) (tail : ℕ) → op ≡ Cut cut.name size → slice_get b.inodes.items ino ≡ Some node
      → tail ≡ tail_at (d.inode ino).log.pages (count (d.inode ino).log)
      → ((e : Disk) (i : ℕ) (name : List ℕ) → IsStateOf e i node → named e name ≡ Some i → pages ≡ refilled e name size)
      → ((g : Geometry) (log : Log) → IsPaged g log → tail ≡ tail_at log.pages (count log) → log_pages ≡ extra (pages + 1) log)
      → from ≡ lost_from size pages
      → IsPlanOf d op ino (record { ino = ino; size = size; pages = pages; log_pages = log_pages; from = from })
  plan_is size pages log_pages from node tail op_is at tail_is fills grows from_is =
      let pages_are = fills d ino cut.name (record { used = subst IsUsed (sym file.live) tt; is = v.inodes.each ino node at }) cut.leads in
      record {
        cut = record { name = cut.name; to = size; op_is = op_is; legal = cut.legal; leads = cut.leads; fits = fits };
        ino_is = refl;
        size_is = refl;
        pages = pages_are;
        log_pages =
            grows d.geometry (d.inode ino).log (log_paged d b s v ino file) tail_is
            ∙ ap (λ (k : ℕ). extra (k + 1) (d.inode ino).log) pages_are
            ∙ ap (λ (r : Option ℕ). extra (refilled d cut.name size + 1) (d.inode (inode_of r)).log) (sym cut.leads);
        from = from_is ∙ ap (lost_from size) pages_are;
      }
    where
      same_size : (x y : ℕ) → Cut cut.name x ≡ Cut cut.name y → x ≡ y
      same_size x y e = cc

      fits : size ≤ 16777216
      fits = omega (arith, same_size size cut.to (sym op_is ∙ cut.op_is), cut.fits)

-- one operation has one name
pub size_named : (op : Op) (name other : List ℕ) (to size : ℕ) → op ≡ Cut name to → op ≡ Cut other size → op ≡ Cut name size
size_named op name other to size one two = two ∙ ap (λ (n : List ℕ). Cut n size) (sym (same name other to size (sym one ∙ two)))
  where
    same : (a b : List ℕ) (x y : ℕ) → Cut a x ≡ Cut b y → a ≡ b
    same a b x y e = cc

-- an error that is passed on
pub passed_on : (r : Result ℕ Refusal) (refusal : Refusal) (Q : Refusal → Type 0) → IsErrAnd r (λ e. e ≡ refusal) → Q refusal → IfErr r Q
passed_on (Ok x) refusal Q same tells = absurd same
passed_on (Err e) refusal Q same tells = subst Q (sym same) tells
