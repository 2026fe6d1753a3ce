use Rattle.std.proofs.lemmas.Str.Ascii.{trim_ascii_start_is}
use Rattle.sheet.proofs.word.split_word.Goals as goal

pub returns-clause-rest : goal.returns-clause-rest
returns-clause-rest c = cc (trim_ascii_start_is _ _ c.trim_ascii_start.ensures.value)
