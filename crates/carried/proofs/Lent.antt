-- A panel's own lamellae, lent: they are as they must be to carry a section along them. Assumes nothing.
use Rattle.panel.specs.declared.Panel.{Panel}
use Rattle.panel.specs.Lamellae.{lamellae}
use Rattle.section.specs.Tests.{SectionFits}
use Rattle.carried.specs.Carrying.{EachThick, LamellaeFit}

pub own_lamellae : (p : Panel) → SectionFits p → EachThick (lamellae p) → LamellaeFit (lamellae p)
own_lamellae p fits each = record { thickness = fits.thickness; each = each }
