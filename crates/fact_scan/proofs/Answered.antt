-- What is told of an answer follows from what is told of another.
use Rattle.std.specs.Prelude.{Result, Ok, Err, OnOk, IfOk, IfErr}

pub ok_gives : {X E : Type 0} (r : Result X E) (P : Type 0) (Q R : X → Type 0) → ((x : X) → P → Q x → R x) → OnOk r P → IfOk r Q → IfOk r R
ok_gives (Ok x) P Q R gives p q = gives x p q
ok_gives (Err e) P Q R gives p q = tt

pub err_gives : {X E : Type 0} (r : Result X E) (Q R : E → Type 0) → ((e : E) → Q e → R e) → IfErr r Q → IfErr r R
err_gives (Ok x) Q R gives q = tt
err_gives (Err e) Q R gives q = gives e q
