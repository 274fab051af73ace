use Rattle.std.specs.Char.{is_ascii_digit}
use Rattle.std.proofs.Common.{◌≡◌, ◌+◌, ◌*◌, ◌<◌, arith}
use Rattle.lisp_reader.specs.Meanings.{micros_in}
use Rattle.lisp_reader.proofs.Sized.{front_passes, micros_are}
use Rattle.lisp_reader.proofs.meaning.time.Goals as goal
use Rattle.lisp_reader.proofs.meaning.time.Goals.{After-size}

pub size-seconds-requires : goal.size-seconds-requires
size-seconds-requires c = rw c.digits_before.ensures.digits (front_passes is_ascii_digit c.args.letters.now)

-- what was counted is what the time has
counted : (c : After-size) → (c.size-seconds.result * 1000000 + c.size.result * c.pow-scale.result ≡ micros_in c.args.letters.now) × (c.size.result * c.pow-scale.result < 1000000)
counted c =
    micros_are c.args.letters.now c.size-seconds.result c.size.result c.pow-scale.result c.requires
    (rw (← c.digits_before.ensures.digits) c.size-seconds.ensures) (omega arith) (rw (← c.behind_dot-decimals.ensures) c.size.ensures)
    (rw (← c.behind_dot-decimals.ensures) c.pow-scale.ensures)

pub overflow_mul-micros-2 : goal.overflow_mul-micros-2
overflow_mul-micros-2 c = omega (arith, (counted c).1)

pub overflow_add-micros : goal.overflow_add-micros
overflow_add-micros c = omega (arith, (counted c).1)
