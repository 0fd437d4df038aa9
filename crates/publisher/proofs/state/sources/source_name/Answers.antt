use Rattle.std.proofs.Common.{◌≡◌, ◌/◌, ◌%◌, ◌<◌, ◌≤◌, ◌^◌, arith, refl}
use Rattle.std.proofs.lemmas.Fmt.{decimal_digit, decimal_step}
use Rattle.publisher.proofs.state.sources.source_name.Goals as goal

pub returns-then-source-lt10 : goal.returns-then-source-lt10
returns-then-source-lt10 c =
    let less : c.args.source < 10 = c.if-source-lt10.true in
    let same : c.args.source % 10 ≡ c.args.source = omega arith in
    rw (c.name_of.ensures, c.digit-ones.ensures.value, same, decimal_digit c.args.source less) refl

pub returns-then-source-lt100 : goal.returns-then-source-lt100
returns-then-source-lt100 c =
    let less : c.args.source < 100 = c.if-source-lt100.true in
    let past = c.if-source-lt10.false in
    let more : 10 ≤ c.args.source = omega arith in
    let tens : c.args.source / 10 < 10 = omega arith in
    let same : c.args.source / 10 % 10 ≡ c.args.source / 10 = omega arith in
    let fits : c.args.source < 2 ^ 64 = omega arith in
    rw (
      c.name_of-then-source-lt100.ensures,
      c.digit-ones.ensures.value,
      c.digit-tens.ensures.value,
      same,
      decimal_step c.args.source more fits,
      decimal_digit (c.args.source / 10) tens,
    ) refl

pub returns : goal.returns
returns c =
    let few : c.args.source < 256 = c.requires in
    let past = c.if-source-lt100.false in
    let more : 10 ≤ c.args.source = omega arith in
    let tens : 10 ≤ c.args.source / 10 = omega arith in
    let hundreds : c.args.source / 10 / 10 < 10 = omega arith in
    let same : c.args.source / 10 / 10 ≡ c.args.source / 100 = omega arith in
    let fits : c.args.source < 2 ^ 64 = omega arith in
    let fits_tens : c.args.source / 10 < 2 ^ 64 = omega arith in
    rw (
      c.name_of-2.ensures,
      c.digit-ones.ensures.value,
      c.digit-tens.ensures.value,
      c.digit-hundreds.ensures.value,
      decimal_step c.args.source more fits,
      decimal_step (c.args.source / 10) tens fits_tens,
      decimal_digit (c.args.source / 10 / 10) hundreds,
      same,
    ) refl
