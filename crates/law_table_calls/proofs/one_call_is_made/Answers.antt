use Rattle.law_table_calls.proofs.Disks.{call_images, call_made}
use Rattle.law_table_calls.proofs.one_call_is_made.Goals as goal

pub returns-clause-images : goal.returns-clause-images
returns-clause-images c = λ d t call s u valid stands may on agree stores leaves. call_images d valid s u stands t call may on stores agree leaves

pub returns-clause-made : goal.returns-clause-made
returns-clause-made c = λ d t t' call s u valid stands may on stores makes. call_made d valid s u stands t call may on stores t' makes
