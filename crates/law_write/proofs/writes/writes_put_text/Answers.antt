use Rattle.law_write.proofs.WriteBytes.{bytes-written}
use Rattle.law_write.proofs.WriteFiles.{bytes-others}
use Rattle.law_write.proofs.writes.writes_put_text.Goals as goal

pub returns : goal.returns
returns c = λ ino old new w ok at text is. record {
  here = bytes-written ino old new w ok at text is;
  others = bytes-others ino old new w ok;
}
