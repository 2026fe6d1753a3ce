use lib.Utf8.{encode}
use Rattle.std.specs.Str.{chars}
use Rattle.sheet.proofs.worked.worked_texts.Goals as goal

pub returns : goal.returns
unfolding chars encode
returns c = search
