mod Ascii
mod Nearest
mod Readings
