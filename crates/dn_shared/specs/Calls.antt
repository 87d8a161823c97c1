-- What the calls of a shared volume promise.
use Rattle.std.specs.Prelude.{◌≡◌, ◌⊎◌, ◌≤◌, length, Option, Some, None, Result, Ok, Err}
use Rattle.dn_model.specs.declared.op.Op.{Op}
use Rattle.dn_model.specs.declared.op.Reply.{Reply}
use Rattle.count_board.specs.declared.told.Hand.TheVariants.{Fly, Gone}
use Rattle.count_board.specs.declared.told.Mark.{Mark}
use Rattle.count_board.specs.declared.view.Account.{Account}
use Rattle.count_board.specs.declared.board.Board.{Board}
use Rattle.count_board.specs.declared.pass.Pass.{Pass}
use Rattle.count_board.specs.Boards.{base_of}
use Rattle.count_board.specs.Passes.{account}
use Rattle.dn_shared.specs.declared.call.CallFault.{CallFault}
use Rattle.dn_shared.specs.declared.call.CallFault.TheVariants as fault
use Rattle.dn_shared.specs.declared.site.Site.{Site}
use Rattle.dn_shared.specs.Marks.{SaysLast, SaysStopped, SaysRunning}
use Rattle.dn_shared.specs.Turns.{Keeps, IsAnswered}

-- the pass is that of a client: those of the daemon and of reclaim come behind
abbrev pub IsClientPass : {D F : Type 0} → Board (Site D F) → Pass (Site D F) → Type 0
IsClientPass b p =
    (1 ≤ (account p).number) × ((account p).number ≤ length (base_of b).gone.items)

-- a client may call: it has nothing in hand, or the volume was stopped as it last looked
abbrev pub MayCall : Account → Type 0
MayCall a = (a.hand ≡ None) ⊎ (SaysStopped a × ((op : Op) × (a.hand ≡ Some (Fly op))))

-- what a call answered, of the account before and after
abbrev pub Calls : Op → Account → Account → Result Reply CallFault → Type 0
Calls op a b (Ok reply) = IsAnswered op reply a b × SaysRunning b
Calls op a b (Err fault.NoMemory) = (b.calls ≡ a.calls) × (b.hand ≡ None) × SaysRunning b
Calls op a b (Err fault.Stopped) = (b.calls ≡ a.calls) × SaysStopped b
    × ((b.hand ≡ a.hand) ⊎ ((a.hand ≡ None) × (b.hand ≡ Some (Fly op))))

-- what its begin answered: a reply, or that it is in flight
abbrev pub Starts : Op → Account → Account → Result (Option Reply) CallFault → Type 0
Starts op a b (Ok (Some reply)) = IsAnswered op reply a b × SaysRunning b
Starts op a b (Ok None) = (b.calls ≡ a.calls) × (b.hand ≡ Some (Fly op)) × SaysRunning b
    × (a.hand ≡ None)
Starts op a b (Err fault.NoMemory) = (b.calls ≡ a.calls) × (b.hand ≡ None) × SaysRunning b
Starts op a b (Err fault.Stopped) = Keeps a b × SaysStopped b

-- what the rest of it answered, once it is in flight
abbrev pub Finishes : Op → Account → Account → Result Reply CallFault → Type 0
Finishes op a b (Ok reply) = IsAnswered op reply a b × SaysRunning b
Finishes op a b (Err fault.NoMemory) = ⊥
Finishes op a b (Err fault.Stopped) = Keeps a b × SaysStopped b

-- what a client has that left: it makes no more calls
abbrev pub Leaves : Account → Account → Type 0
Leaves a b = (b.calls ≡ a.calls) × (b.hand ≡ Some Gone) × SaysLast b (λ mark. 1 ≤ mark.left)

-- what a loop of the daemon or of reclaim answered
abbrev pub Loops : (Mark → Type 0) → Account → Account → Result (Unit {0}) CallFault → Type 0
Loops Over a b (Ok done) = Keeps a b × SaysLast b Over × SaysRunning b
Loops Over a b (Err fault.NoMemory) = Keeps a b × SaysRunning b
Loops Over a b (Err fault.Stopped) = Keeps a b × SaysStopped b
