-- The answers that results stand for.
use Rattle.std.specs.Prelude.{ℕ, Ok, Err, Result}
use Rattle.book.specs.declared.account.Figures.{Figures}
use Rattle.book.specs.declared.refusal.Refusal.{Refusal}
use Rattle.book.specs.Answer.{Answer, Done, Entered, Ordered, Told, Refused}

abbrev pub done : Result (Unit {0}) Refusal → Answer
done (Ok x) = Done
done (Err r) = Refused r

abbrev pub entered : Result ℕ Refusal → Answer
entered (Ok n) = Entered n
entered (Err r) = Refused r

abbrev pub told : Result Figures Refusal → Answer
told (Ok f) = Told f
told (Err r) = Refused r

abbrev pub ordered : Result ℕ Refusal → Answer
ordered (Ok n) = Ordered n
ordered (Err r) = Refused r
