use Rattle.std.proofs.Common.{◌≡◌, sym}
use Rattle.std.specs.Prelude.{Some, None}
use Rattle.index_spec.specs.Options.{after_end, setting_at}
use Rattle.index_spec.proofs.Elements.{setting_at_shorter, all-settings, no-setting, one-setting}
use Rattle.index_spec.proofs.options.settings_of.Goals as goal

pub returns-in-Some : goal.returns-in-Some
returns-in-Some c = all-settings c.args.tokens.now c.loop-after.rest.now c.in-Some.after.now c.loop-after.settings c.loop-after.invariant (sym c.in-Some.ensures)

pub returns-in-None : goal.returns-in-None
returns-in-None c =
    let ts = c.loop-after.rest.now in
    let goes_on : after_end ts ≡ None = sym c.in_default.ensures in
    let none : setting_at ts ≡ None = sym (rw c.in-None.is at c.in_ok-setting_at.ensures) in
    no-setting c.args.tokens.now ts c.loop-after.settings c.loop-after.invariant goes_on none

pub loop-after-smaller : goal.loop-after-smaller
loop-after-smaller c =
    let ts = c.loop-after.rest.now in
    let some : setting_at ts ≡ Some (c.in-Some-2.setting, c.in-Some-2.after.now) = sym (rw c.in-Some-2.is at c.in_ok-setting_at.ensures) in
    setting_at_shorter ts (c.in-Some-2.setting, c.in-Some-2.after.now) some

pub loop-after-preserved : goal.loop-after-preserved
loop-after-preserved c =
    let ts = c.loop-after.rest.now in
    let goes_on : after_end ts ≡ None = sym c.in_default.ensures in
    let some : setting_at ts ≡ Some (c.in-Some-2.setting, c.in-Some-2.after.now) = sym (rw c.in-Some-2.is at c.in_ok-setting_at.ensures) in
    one-setting c.args.tokens.now ts c.in-Some-2.after.now c.loop-after.settings c.push.new.self c.in-Some-2.setting c.loop-after.invariant goes_on some c.in_ok-push-in-Some-2.ensures.ok
