use Rattle.std.proofs.Common.{◌≡◌, rules}
use Rattle.roster.specs.declared.tables.Person.{Person}
use Rattle.roster.proofs.tables.PersonClone.clone.Goals as goal

-- each field is that of the other
pub returns : goal.returns
returns c =
    let p : Person = c.args.self.now in
    let host : c.in_ok-clone.field-0 ≡ p.host = search rules in
    let nick : c.in_ok-clone-2.field-0 ≡ p.nick = search rules in
    let user : c.in_ok-clone-3.field-0 ≡ p.user = search rules in
    let real : c.in_ok-clone-4.field-0 ≡ p.real = search rules in
    let exchange : c.in_ok-clone-5.field-0 ≡ p.exchange = search rules in
    let account : c.in_ok-clone-6.field-0 ≡ p.account = search rules in
    let away : c.in_ok-clone-7.field-0 ≡ p.away = search rules in
    let parting : c.in_ok-clone-8.field-0 ≡ p.parting = search rules in
    record {
      cases = λ i. record {
        host = host i;
        nick = nick i;
        user = user i;
        real = real i;
        held = p.held;
        caps = p.caps;
        exchange = exchange i;
        account = account i;
        registered = p.registered;
        away = away i;
        invisible = p.invisible;
        parting = parting i;
      };
    }
