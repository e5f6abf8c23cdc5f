-- What a job is to scheduling.
use Rattle.std.specs.Prelude.{slice_index}
use Rattle.schedule.specs.Problems.{Problem}
use Rattle.checking.specs.declared.job.Job.{Job}

abbrev pub seen : Job → Problem
seen j = record { blocks = j.blocks.now; time = λ b. slice_index j.times.now b; messages = j.messages.now }
