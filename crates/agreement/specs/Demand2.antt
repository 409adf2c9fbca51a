-- The customer's demand 2: messages agree with the public CTB and HXG tables, packing and unpacking both; firmware
-- parts with document 01's rules, with what the landed requests of document 02 change; and what is sent, handed out or
-- located is judged on the very bytes used. One record.
use Rattle.message.specs.Agreement.{Agreement}
use Rattle.agreement.specs.VeryDwords.{VeryDwords}
use Rattle.agreement.specs.Images.{Images}
use Rattle.agreement.specs.Directories.{Directories, InsideDirectories}

pub record Demand2 : Type 0 where
  pub messages : Agreement
  pub dwords : VeryDwords
  pub images : Images
  pub directories : Directories
  pub inside : InsideDirectories
