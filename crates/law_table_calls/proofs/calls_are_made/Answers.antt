use Rattle.law_table_calls.proofs.Disks.{calls_images, each_images, calls_made}
use Rattle.law_table_calls.proofs.calls_are_made.Goals as goal

pub returns-clause-images : goal.returns-clause-images
returns-clause-images c = λ d t calls s u valid stands may on agree stores leaves. calls_images d valid s u stands t calls may on stores agree leaves

pub returns-clause-each : goal.returns-clause-each
returns-clause-each c = λ d t calls s u valid stands may on agree stores leaves. each_images d valid s u stands t calls may on stores agree leaves

pub returns-clause-made : goal.returns-clause-made
returns-clause-made c = λ d t t' calls s u valid stands may on stores makes. calls_made d valid s u stands t calls may on stores t' makes
