use Prim.Native.Nat.{ℕ, ◌-◌, ◌<◌, ◌≤◌}
use mathlib.Core.List.{List, ◌++◌, append-nil}
use mathlib.Core.Path.{sym, ◌∙◌, ap}
use native.Mathlib.Omega.{arith}
use lib.ListN.{length, length-set, drop_of_length-le}
use Rattle.text.specs.Digits.{decimal}
use Rattle.text.proofs.Tens.{decimal-length, decimal_some}
use Rattle.text.proofs.Writing.{digit_turn, digit_last, digits_left}
use Rattle.text.proofs.write.put_decimal.Goals as goal

pub loop-rest-init : goal.loop-rest-init
loop-rest-init c =
    let a = c.args in
    let pre = c.told-out in
    let n = a.n in
    let h : length a.out.now ≤ 20 = omega arith in (
      decimal-length 19 n (omega arith),
      omega arith,
      pre,
      sym (append-nil (decimal n)) ∙ ap (λ (l : List ℕ). decimal n ++ l) (sym (drop_of_length-le a.out.now h)),
    )

pub overflow_sub-at : goal.overflow_sub-at
overflow_sub-at c = omega (arith, digits_left c.loop-rest.rest c.loop-rest.at c.loop-rest-test.true c.loop-rest.invariant.0)

pub loop-rest-preserved : goal.loop-rest-preserved
loop-rest-preserved c =
    let l = c.loop-rest in
    let loop-test = c.loop-rest-test in
    let a = c.args in
    let d = digits_left l.rest l.at loop-test.true l.invariant.0 in (
      d.0,
      omega arith,
      length-set l.out _ _ ∙ l.invariant.2,
      digit_turn (decimal a.n) l.out l.rest l.at _ (omega arith) (omega arith) l.invariant.3 loop-test.true
          c.spell_digit.ensures,
    )

pub overflow_sub-at-2 : goal.overflow_sub-at-2
overflow_sub-at-2 c = omega (arith, decimal_some c.loop-rest.rest)

pub returns : goal.returns
returns c =
    let l = c.loop-rest in
    let a = c.args in
    let g : 0 < l.at = omega (arith, decimal_some l.rest) in (
      omega (arith, length-set l.out (l.at - 1) c.spell_digit-2.result),
      digit_last (decimal a.n) l.out l.rest l.at _ g (omega arith) l.invariant.3 (omega arith)
          c.spell_digit-2.ensures,
    )
