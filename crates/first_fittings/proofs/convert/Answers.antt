-- Each return by the row that its tests lead to.
use Rattle.std.proofs.Common.{ℕ, sym, ap, ap₂, ◌∙◌, ◌≡◌, ◌/◌, ◌%◌, ◌*◌, ◌<◌, ◌≤◌, ◌++◌, drop, length, arith}
use Rattle.first_fittings_rules.specs.declared.Refusal.TheVariants.{NotWhole, ShortBuffer, LastBytesUsed}
use Rattle.first_fittings_rules.specs.Conversions.{converted}
use Rattle.first_fittings_rules.proofs.Ways.{converted-length}
use Rattle.first_fittings_rules.proofs.Answered.{refused, accepted, not_whole, too_short_lem, last_bytes, converts}
use Rattle.first_fittings.proofs.convert.Goals as goal

-- The test of the room, by what the two sizes are. That each is one of its direction's is left to `omega`: so another number in its place
-- is refused for the number, whatever its form (must-fail/).
fewer : {x y into size : ℕ} (room long : ℕ) → room / x < long / y → x ≡ into → y ≡ size → room / into < long / size
fewer room long h e f = rw (e, f) at h

enough : {x y into size : ℕ} (room long : ℕ) → long / y ≤ room / x → x ≡ into → y ≡ size → long / size ≤ room / into
enough room long h e f = rw (e, f) at h

pub returns-then-input-FROM-ne0 : goal.returns-then-input-FROM-ne0
returns-then-input-FROM-ne0 g c =
    let d = g.D.Direction in
    let laws = g.met.D.Direction in
    let tape = c.args.input.now in
    let lent = c.args.output.now in
    let taken = c.FROM.ensures ∙ sym laws.takes in
    refused d.way tape lent NotWhole
    (not_whole d.way d.INTO laws.some_given laws.gives tape lent
    (λ (e : length tape % d.way.size ≡ 0). c.if-input-FROM-ne0.true (ap (λ n. length tape % n) (omega (arith, taken)) ∙ e)))

pub returns-then-output-INTO : goal.returns-then-output-INTO
returns-then-output-INTO g c =
    let d = g.D.Direction in
    let laws = g.met.D.Direction in
    let tape = c.args.input.now in
    let lent = c.args.output.now in
    let taken = c.FROM.ensures ∙ sym laws.takes in
    let taken₂ = c.FROM-2.ensures ∙ sym laws.takes in
    let whole : length tape % d.way.size ≡ 0 = ap (λ n. length tape % n) (omega (arith, taken)) ∙ c.if-input-FROM-ne0.false in
    refused d.way tape lent ShortBuffer
    (too_short_lem d.way d.INTO laws.some_given laws.gives tape lent whole
    (fewer _ _ c.if-output-INTO.true (omega (arith, c.INTO.ensures)) taken₂))

pub returns-then-any_barred : goal.returns-then-any_barred
returns-then-any_barred g c =
    let d = g.D.Direction in
    let laws = g.met.D.Direction in
    let tape = c.args.input.now in
    let lent = c.args.output.now in
    let taken = c.FROM.ensures ∙ sym laws.takes in
    let taken₂ = c.FROM-2.ensures ∙ sym laws.takes in
    let whole : length tape % d.way.size ≡ 0 = ap (λ n. length tape % n) (omega (arith, taken)) ∙ c.if-input-FROM-ne0.false in
    refused d.way tape lent LastBytesUsed
    (last_bytes d.way d.INTO laws.some_given laws.gives tape lent whole
    (enough _ _ c.if-output-INTO.false (omega (arith, c.INTO.ensures)) taken₂)
    (sym c.any_barred.ensures ∙ c.if-any_barred.true))

pub returns : goal.returns
returns g c =
    let d = g.D.Direction in
    let laws = g.met.D.Direction in
    let tape = c.args.input.now in
    let lent = c.args.output.now in
    let taken = c.FROM.ensures ∙ sym laws.takes in
    let taken₂ = c.FROM-2.ensures ∙ sym laws.takes in
    let whole : length tape % d.way.size ≡ 0 = ap (λ n. length tape % n) (omega (arith, taken)) ∙ c.if-input-FROM-ne0.false in
    let count : c.INTO-2.result * (length tape / c.FROM-2.result) ≡ d.INTO * (length tape / d.way.size) =
    ap₂ (λ a b. a * (length tape / b)) c.INTO-2.ensures taken₂ in
    accepted d.way tape lent _ c.write_all.new.output
    (converts d.way d.INTO laws.some_given laws.gives tape lent whole
    (enough _ _ c.if-output-INTO.false (omega (arith, c.INTO.ensures)) taken₂)
    (sym c.any_barred.ensures ∙ c.if-any_barred.false))
    (count ∙ sym (converted-length d.way d.INTO laws.gives tape))
    (c.write_all.ensures ∙ ap (λ n. converted d.way tape ++ drop n lent) (sym count))
