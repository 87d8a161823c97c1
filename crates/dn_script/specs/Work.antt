-- Operations that are generated from a number, so that runs can be told by that number alone.
use Rattle.std.specs.Prelude.{
  ℕ,
  zero,
  suc,
  ◌+◌,
  ◌*◌,
  ◌/◌,
  ◌%◌,
  ◌==◌,
  nat_lt,
  if◌then◌else◌,
  List,
  [],
  ◌∷◌,
  ◌++◌,
  codes,
  decimal,
  replicate,
}
use Rattle.dn_model.specs.declared.op.Op.{Op}
use Rattle.dn_model.specs.declared.op.Op.TheVariants.{Create, Write, Cut, Remove, Rename}

-- the state of the generator after this one: a linear step modulo 2^64
abbrev pub next_state : ℕ → ℕ
next_state x = (x * 6364136223846793005 + 1442695040888963407) % 18446744073709551616

-- the name of a file: w and its number
abbrev pub work_name : ℕ → List ℕ
work_name i = codes "w" ++ decimal i

-- the operation of kind k on file f, at page p, with value v
abbrev pub op_of : (k f p v : ℕ) → Op
op_of k f p v =
    if k == 0 then Create (work_name f)
    else if nat_lt k 5 then Write (work_name f) (p * 4096) (replicate 4096 (v + 1))
    else if k == 5 then Cut (work_name f) (p * 4096)
    else if k == 6 then Remove (work_name f)
    else Rename (work_name f) (work_name ((f + p) % 16))

-- the operation that the upper half of a state picks
abbrev pub op_picked : ℕ → Op
op_picked r = op_of (r % 8) (r / 8 % 16) (r / 128 % 32) (r / 4096 % 4)

-- so many operations after a state
unfoldable pub ops_after : (count x : ℕ) → List Op
ops_after zero x = []
ops_after (suc count) x =
    op_picked (next_state x / 4294967296) ∷ ops_after count (next_state x)

-- the operations of generated work: as many as the number that they start with
abbrev pub work_ops : ℕ → List Op
work_ops n = ops_after n n
