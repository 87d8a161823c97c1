-- A job as scripts of operations, and the numbers of their lines.
use Rattle.std.specs.Prelude.{ℕ, List, [], ◌∷◌, ◌++◌, map}
use Rattle.std.specs.List.{range_with_len}
use Rattle.dn_model.specs.declared.op.Op.{Op}
use Rattle.dn_script.specs.Work.{work_ops}
use Rattle.dn_script.specs.declared.job.Command.{Command}
use Rattle.dn_script.specs.declared.job.Command.TheVariants.{Do, Count}
use Rattle.dn_script.specs.declared.job.Line.{Line}

-- the operation of a line, if it has one, and then its number
abbrev pub op_in : Command → List Op
op_in (Do op) = op ∷ []
op_in (Count slot) = []

abbrev pub number_in : ℕ → Command → List ℕ
number_in number (Do op) = number ∷ []
number_in number (Count slot) = []

-- the operations of lines, and the numbers of their lines
abbrev pub ops_in : List Line → List Op
ops_in [] = []
ops_in (line ∷ lines) = op_in line.command ++ ops_in lines

abbrev pub numbers_in : List Line → List ℕ
numbers_in [] = []
numbers_in (line ∷ lines) = number_in line.number line.command ++ numbers_in lines

-- those of clients
abbrev pub scripts_in : List (ℕ × List Line) → List (ℕ × List Op)
scripts_in clients = map (λ (c : ℕ × List Line). (c.0, ops_in c.1)) clients

abbrev pub line_numbers_in : List (ℕ × List Line) → List (ℕ × List ℕ)
line_numbers_in clients = map (λ (c : ℕ × List Line). (c.0, numbers_in c.1)) clients

-- generated work, as the script of client 1
abbrev pub work_scripts : ℕ → List (ℕ × List Op)
work_scripts n = (1, work_ops n) ∷ []

-- whose operations are numbered from 1
abbrev pub work_numbers : ℕ → List (ℕ × List ℕ)
work_numbers n = (1, range_with_len 1 n) ∷ []
