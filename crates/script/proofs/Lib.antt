mod Reading
mod Figures
mod Words
mod Verbs
mod Operands
mod Orders
mod Commands
mod Lines
